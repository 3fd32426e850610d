pub mod Spent
pub mod Marks
