pub mod Visits
pub mod Held
pub mod TypedOperands
pub mod Listed
pub mod Once
pub mod TypedTree
pub mod Shown
pub mod Numbered
