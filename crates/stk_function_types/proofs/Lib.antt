pub mod Examples
pub mod Among
pub mod Gathering
