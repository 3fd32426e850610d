pub mod Causes
pub mod Definitions
pub mod Lines
pub mod Named
pub mod Replays
pub mod Searches
