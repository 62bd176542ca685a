pub mod Adapters
pub mod Memory
pub mod Streams
