mod Calls
mod Growing
mod Looking
mod Noting
mod Pumping
mod Registrations
