pub mod Counting
pub mod Later
pub mod Searching
pub mod Deleting
pub mod Settling
pub mod Skipping
pub mod Tracing
pub mod Undecided
