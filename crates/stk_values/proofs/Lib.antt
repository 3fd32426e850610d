mod Answered
pub mod InRange
