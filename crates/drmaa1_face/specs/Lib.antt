pub mod Posts
pub mod Said
pub mod Steps
pub mod FaceEntries
pub mod Answers
