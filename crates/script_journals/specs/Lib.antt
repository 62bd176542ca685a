pub mod AnsweredLaws
pub mod AskedLaws
pub mod Calls
pub mod RecordedLaws
pub mod PlayedLaws
pub mod HistoryLaws
pub mod ClientLaws
pub mod RegisterLaws
