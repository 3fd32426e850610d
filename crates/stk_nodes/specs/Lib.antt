pub mod Setter
pub mod Rows
