pub mod Blocks
pub mod Code
pub mod ContractWords
pub mod Hashsum
pub mod Header
pub mod Images
pub mod Open
pub mod Pack
