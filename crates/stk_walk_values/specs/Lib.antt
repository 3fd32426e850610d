pub mod Arguments
pub mod Sided
pub mod Parts
pub mod CallCharges
pub mod Indexed
