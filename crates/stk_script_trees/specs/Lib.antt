pub mod Heads
pub mod Numbers
pub mod Gives
pub mod Fronts
pub mod View
pub mod Commands
pub mod Shallow
