pub mod Made
pub mod Typed
pub mod Exists
pub mod Counted
pub mod Marked
pub mod Taking
pub mod Visited
pub mod Judging
