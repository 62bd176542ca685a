pub mod AllWaits
pub mod Desks
pub mod Indices
pub mod Lists
pub mod Machines
pub mod Templates
pub mod Tries
pub mod Particulars
