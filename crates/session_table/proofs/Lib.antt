pub mod Entries
pub mod NumberRows
pub mod NameRows
