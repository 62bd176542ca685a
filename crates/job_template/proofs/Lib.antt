mod Groups
mod Placeholders
