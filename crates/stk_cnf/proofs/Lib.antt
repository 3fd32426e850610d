pub mod Growing
pub mod Exact
pub mod Literals
pub mod Sets
pub mod Down
pub mod Up
pub mod Stands
