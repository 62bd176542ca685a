pub mod Ends
pub mod Going
pub mod Judging
pub mod Migrated
pub mod Somes
