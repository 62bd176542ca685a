pub mod Histories
pub mod Scenes
pub mod Quiet
pub mod Joins
pub mod Tickets
pub mod Serving
pub mod Passing
pub mod Owners
