pub mod Statuses
pub mod Texts
pub mod Outcomes
pub mod Commands
pub mod Recurring
pub mod Replays
pub mod FrontLaws
pub mod StatusLaws
