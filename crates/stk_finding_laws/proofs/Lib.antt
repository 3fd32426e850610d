pub mod Searching
pub mod Deciding
pub mod Numbered
pub mod Paths
pub mod Order
pub mod Unique
