pub mod Words
pub mod Kinds
pub mod Refusals
pub mod Outcomes
pub mod Ends
