pub mod EventLaws
pub mod Forecasts
pub mod ForeseenLaws
pub mod GrowthLaws
pub mod QuietLaws
pub mod UniqueLaws
