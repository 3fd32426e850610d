pub mod Answered
pub mod Exists
