pub mod Units
mod Going
mod Complete
mod Asking
pub mod Found
