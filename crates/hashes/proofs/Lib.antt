pub mod Algorithms
pub mod Blocks
pub mod Feeding
pub mod Identities
pub mod Rounds
pub mod Storing
pub mod Theorems
