mod Edges
mod Looks
