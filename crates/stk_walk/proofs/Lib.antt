mod ByPairs
mod Compared
mod Ends
mod Once
mod Paired
mod Placing
mod Ranked
mod Rowed
mod Tracing
pub mod Found
pub mod Slots
pub mod Distinct
pub mod Parts
pub mod Rows
