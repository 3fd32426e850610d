pub mod Values
pub mod Units
pub mod Steps
pub mod Cuts
pub mod Members
pub mod Same
