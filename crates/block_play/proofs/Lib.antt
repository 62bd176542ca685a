mod Untimed
mod Made
mod Registered
mod Awaited
mod Stretches
