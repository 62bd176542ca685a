pub mod Commands
pub mod Endings
pub mod Left
pub mod Running
pub mod Runs
pub mod Soaking
