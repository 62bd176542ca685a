pub mod Runs
pub mod Hubs
pub mod Stages
pub mod Others
pub mod Pairs
