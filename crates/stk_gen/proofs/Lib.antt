pub mod Sequence
pub mod Lines
