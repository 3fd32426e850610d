pub mod Measures
pub mod Typed
pub mod Reading
pub mod Visits
pub mod Exists
pub mod Counts
pub mod Going
