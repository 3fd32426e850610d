pub mod Placed
pub mod Named
pub mod Texts
pub mod Given
pub mod Replaced
pub mod Claims
