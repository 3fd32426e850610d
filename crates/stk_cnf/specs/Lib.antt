pub mod Clauses
pub mod Naming
pub mod Standing
pub mod Marks
