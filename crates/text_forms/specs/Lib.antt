pub mod Refusals
pub mod RefusalLaws
pub mod Templates
pub mod TemplateLaws
pub mod Filters
pub mod FilterLaws
