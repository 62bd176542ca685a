pub mod Draws
pub mod Lines
