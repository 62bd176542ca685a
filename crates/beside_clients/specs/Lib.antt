pub mod HubClients
pub mod Starts
