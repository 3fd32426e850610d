pub mod Rows
pub mod Steps
pub mod StoppedReading
pub mod Placing
