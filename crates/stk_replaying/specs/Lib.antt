pub mod Marks
pub mod Outsides
pub mod Replaying
