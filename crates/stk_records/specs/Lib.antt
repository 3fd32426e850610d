pub mod Kinds
pub mod Words
pub mod Counts
pub mod Text
pub mod Json
pub mod Form
