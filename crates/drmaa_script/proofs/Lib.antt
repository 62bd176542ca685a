pub mod Asked
pub mod Left
pub mod Possible
pub mod Ran
pub mod Soaked
pub mod Texts
