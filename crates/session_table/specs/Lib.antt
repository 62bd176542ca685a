pub mod Sessions
pub mod Tables
pub mod NumberEntries
pub mod NameEntries
pub mod TableView
pub mod FirstFree
pub mod Permitted
pub mod SessionLaws
