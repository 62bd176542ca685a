pub mod Configs
pub mod Texts
pub mod Reading
pub mod ConfigLaws
pub mod MatchingLaws
pub mod SequenceLaws
pub mod LimitLaws
pub mod TextLaws
