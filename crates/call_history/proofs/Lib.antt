pub mod Answering
pub mod Lookups
pub mod Tellings
pub mod Turning
pub mod Wanting
