pub mod VerdictBits
pub mod Sayings
