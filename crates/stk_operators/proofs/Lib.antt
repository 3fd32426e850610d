pub mod WordNumbers
pub mod Violating
