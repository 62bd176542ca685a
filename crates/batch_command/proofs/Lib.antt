mod Slots
mod Machines
mod Unread
