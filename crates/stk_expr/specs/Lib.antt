pub mod Fronts
pub mod Gives
pub mod Prefixes
