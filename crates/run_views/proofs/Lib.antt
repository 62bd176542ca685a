pub mod Pairings
pub mod Tellings
