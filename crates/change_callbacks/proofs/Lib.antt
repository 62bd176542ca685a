mod Listens
mod Unplaced
