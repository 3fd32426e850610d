pub mod Alike
pub mod Spacing
pub mod Choosing
pub mod Adding
