pub mod Along
pub mod CallbackLaws
pub mod Callbacks
pub mod Crews
pub mod Looks
pub mod Playable
pub mod Served
pub mod View
