pub mod Mentioned
pub mod Filters
pub mod Changing
pub mod Flat
pub mod Listing
pub mod Made
