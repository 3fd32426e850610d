pub mod Placing
pub mod Growing
pub mod Whole
pub mod Visited
pub mod Told
pub mod Following
pub mod Taken
