pub mod Scripts
pub mod Fields
pub mod Starts
pub mod Laws
