pub mod Evaluations
pub mod Registers
pub mod Statements
pub mod Turns
pub mod Sections
pub mod Cells
pub mod Laws
mod Examples
