pub mod Leading
pub mod Low
pub mod Rows
pub mod Steps
pub mod Placing
