pub mod Worlds
pub mod Knowing
pub mod Naming
pub mod Starts
pub mod Reasons
pub mod Audits
pub mod Truths
