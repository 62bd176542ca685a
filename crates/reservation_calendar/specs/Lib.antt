pub mod Loads
pub mod Fitting
pub mod Schedules
pub mod Timelines
pub mod Heights
pub mod Keys
pub mod Calendars
