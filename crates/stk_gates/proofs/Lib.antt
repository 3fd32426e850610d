pub mod Growth
pub mod Edges
pub mod Decided
pub mod Sharing
