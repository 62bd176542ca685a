pub mod Beginnings
pub mod Callers
pub mod Keeping
pub mod Outside
pub mod Tending
