pub mod Meanings
pub mod Reasons
pub mod Sums
pub mod Texts
