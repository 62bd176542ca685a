pub mod Clocks
pub mod Lookups
pub mod Nexts
pub mod Stores
pub mod Telling
pub mod Told
pub mod Walks
