pub mod Rows
pub mod Shifts
pub mod Division
pub mod Words
