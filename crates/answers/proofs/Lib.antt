pub mod ChoiceLaws
pub mod OutcomeLaws
pub mod RecordLaws
pub mod RefusalLaws
pub mod RuleLaws
pub mod Theorems
