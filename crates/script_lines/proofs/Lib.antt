pub mod Dots
pub mod Sizes
