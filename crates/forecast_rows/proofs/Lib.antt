mod Foretelling
mod Worlds
