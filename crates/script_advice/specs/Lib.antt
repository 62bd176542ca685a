pub mod Roles
pub mod NameSets
pub mod Warnings
pub mod WarningTexts
pub mod Holds
pub mod NameSetLaws
pub mod WarningLaws
