pub mod Marking
pub mod Positions
pub mod Whole
