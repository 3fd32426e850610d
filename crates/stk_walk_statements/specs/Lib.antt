pub mod Walked
pub mod Saved
pub mod Selected
