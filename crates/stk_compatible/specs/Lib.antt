pub mod Same
pub mod Making
pub mod Pairs
pub mod Agreeing
