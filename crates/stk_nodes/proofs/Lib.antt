pub mod Chains
pub mod Views
pub mod Widths
pub mod LaidTokens
pub mod LaidNestings
pub mod LaidPlaces
pub mod Few
pub mod Lengths
