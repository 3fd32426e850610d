pub mod Given
pub mod Places
pub mod Rows
pub mod Tails
pub mod Turns
