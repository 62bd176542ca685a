pub mod AtOnce
pub mod InTurn
