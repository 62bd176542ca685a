pub mod RunLaws
pub mod Runs
pub mod Said
pub mod StartedLaws
pub mod Starts
pub mod Texts
