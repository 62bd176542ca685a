pub mod Faults
pub mod FaultLaws
pub mod Findings
pub mod Verdicts
pub mod VerdictLaws
