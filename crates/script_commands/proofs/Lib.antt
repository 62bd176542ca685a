pub mod Continuing
pub mod Returned
pub mod Played
pub mod Went
