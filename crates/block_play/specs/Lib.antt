pub mod Played
pub mod Waits
pub mod PlayLaws
