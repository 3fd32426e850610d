pub mod Sums
pub mod MarkedVisit
pub mod Events
pub mod Counting
pub mod Loads
pub mod Traits
pub mod Units
