pub mod Bounds
pub mod Residues
pub mod Wrapping
pub mod Machine
pub mod Dividing
pub mod Division
pub mod Ranges
pub mod Laws
mod Quotes
pub mod Enough
mod Reading
mod Spelling
