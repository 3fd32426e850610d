mod Lawful
mod Finding
