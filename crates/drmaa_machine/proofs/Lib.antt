pub mod Askings
pub mod Comings
pub mod RecordedLaws
pub mod Refusing
pub mod Storing
pub mod Tellings
