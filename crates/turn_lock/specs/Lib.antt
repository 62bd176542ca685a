pub mod Histories
pub mod Views
pub mod Rule
pub mod Plays
pub mod Tokens
pub mod Seats
pub mod Owners
