pub mod Answers
pub mod Codes
pub mod Rules
