pub mod Bare
pub mod Code
pub mod Commands
pub mod ContractWords
pub mod Machine
pub mod Memory
pub mod Reached
