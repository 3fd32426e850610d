pub mod Queries
pub mod Searches
