pub mod Said
pub mod StopLaws
pub mod Stopping
pub mod StoppingLaws
pub mod Stops
