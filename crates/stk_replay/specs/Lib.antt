pub mod Status
pub mod Ending
