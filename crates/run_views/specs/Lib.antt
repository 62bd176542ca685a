pub mod Runs
pub mod Ends
pub mod Texts
pub mod Told
pub mod Submitted
pub mod Tables
pub mod Jobs
pub mod JobTexts
