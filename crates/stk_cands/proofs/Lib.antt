pub mod Small
pub mod Operated
