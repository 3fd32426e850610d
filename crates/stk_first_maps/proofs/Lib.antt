pub mod Objects
pub mod Ranges
