pub mod Places
pub mod Scripted
pub mod Searching
