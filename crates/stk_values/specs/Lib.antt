pub mod Charges
pub mod Keeping
pub mod Standing
pub mod Walks
