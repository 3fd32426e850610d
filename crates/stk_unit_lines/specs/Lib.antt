pub mod Lines
pub mod Functions
pub mod UnitLines
pub mod Parts
pub mod Marks
pub mod Wrote
