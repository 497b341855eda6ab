pub mod MapLaws
pub mod RunLaws
pub mod TableLaws
pub mod TestLaws
pub mod Theorems
pub mod WalkLaws
