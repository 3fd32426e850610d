pub mod Wrote
pub mod Units
pub mod Bundles
