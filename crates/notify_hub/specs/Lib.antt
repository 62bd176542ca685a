pub mod HubLaws
pub mod Hubs
pub mod Registered
