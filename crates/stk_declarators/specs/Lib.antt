pub mod Counting
pub mod Parameters
pub mod Functions
pub mod Tails
pub mod Rows
pub mod Uses
