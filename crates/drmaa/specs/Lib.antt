pub mod Works
pub mod Closed
pub mod Hubs
pub mod Pairs
pub mod Crews
