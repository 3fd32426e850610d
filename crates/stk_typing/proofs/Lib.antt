pub mod Opens
pub mod Found
pub mod Signatures
pub mod Views
pub mod Turns
pub mod InitialiserViews
pub mod InitialiserTurns
