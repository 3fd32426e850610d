pub mod Facts
pub mod Outcome
pub mod Types
pub mod Constants
pub mod Rules
