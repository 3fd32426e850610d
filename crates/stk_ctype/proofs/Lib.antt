pub mod Lookups
pub mod Indexing
pub mod Noting
pub mod SizesOfTypes
pub mod Placing
pub mod Turning
pub mod Staying
pub mod MemberPlaces
