pub mod Sets
pub mod Stages
pub mod Claims
pub mod Truth
pub mod Examples
