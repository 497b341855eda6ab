pub mod NumberLaws
pub mod PartLaws
pub mod TestLaws
