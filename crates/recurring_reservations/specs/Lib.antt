pub mod Dates
pub mod DateLaws
pub mod Occurrences
pub mod OccurrenceLaws
pub mod Requests
pub mod Steps
