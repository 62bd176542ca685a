pub mod Continuing
pub mod Outcomes
pub mod Plays
pub mod Registers
