pub mod Arrays
pub mod Controls
pub mod Events
pub mod Jobs
pub mod Machines
pub mod Monitoring
pub mod Queues
pub mod Reservations
