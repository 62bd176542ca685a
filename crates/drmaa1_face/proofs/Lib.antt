pub mod Making
pub mod Awaited
pub mod Timely
pub mod Lists
pub mod Stopped
pub mod Whole
pub mod Ones
