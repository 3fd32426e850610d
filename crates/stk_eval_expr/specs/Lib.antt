pub mod Answering
pub mod Shown
pub mod Leaving
pub mod Parts
pub mod Loops
