pub mod Lines
pub mod Splitting
pub mod SplitLaws
pub mod Automata
pub mod Skipping
pub mod SkippingLaws
pub mod LineLaws
