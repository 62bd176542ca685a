pub mod Opening
pub mod Reports
pub mod Runs
pub mod Serving
