pub mod Exactly
pub mod ReasonLaws
