mod Examples
pub mod Libraries
