pub mod FactsAt
pub mod Steps
pub mod Range
