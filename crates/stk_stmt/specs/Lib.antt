pub mod Finished
pub mod Loops
pub mod Sections
pub mod Units
pub mod Heads
