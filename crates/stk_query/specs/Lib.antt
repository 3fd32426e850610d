pub mod Verdicts
pub mod Spent
