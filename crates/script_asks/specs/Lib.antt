pub mod Replies
pub mod Asks
pub mod Attempts
pub mod Numbers
pub mod Plays
