pub mod Bindings
pub mod Expressions
pub mod Statements
pub mod Sets
pub mod Statics
