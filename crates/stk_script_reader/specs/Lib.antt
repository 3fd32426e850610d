pub mod Names
pub mod Made
pub mod Standing
pub mod Operators
pub mod After
