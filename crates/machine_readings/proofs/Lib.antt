pub mod Loops
pub mod MemberSteps
pub mod RangeSteps
pub mod RowSteps
pub mod Tellings
