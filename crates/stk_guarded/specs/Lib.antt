pub mod Standing
pub mod Statements
pub mod Turns
pub mod Sections
pub mod Cells
pub mod Laws
