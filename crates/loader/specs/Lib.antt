pub mod ContractWords
pub mod Load
