pub mod Children
pub mod Deeds
pub mod Launch
pub mod Memory
pub mod Spawners
