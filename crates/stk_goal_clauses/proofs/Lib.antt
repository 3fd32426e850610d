pub mod Counting
pub mod Bits
pub mod Goals
