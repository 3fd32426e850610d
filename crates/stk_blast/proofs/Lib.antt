pub mod Words
pub mod Residues
pub mod Arguments
pub mod Parts
pub mod InputBits
