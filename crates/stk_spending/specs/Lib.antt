pub mod Charges
pub mod Expressions
pub mod Statements
pub mod Functions
