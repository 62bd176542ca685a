mod Entering
mod Subcommands
mod Walks
mod Dashes
mod Readings
