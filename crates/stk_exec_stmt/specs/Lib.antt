pub mod Saved
pub mod Ending
