pub mod Made
pub mod Pairs
