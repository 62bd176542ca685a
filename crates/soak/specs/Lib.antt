pub mod Summaries
pub mod Soaks
