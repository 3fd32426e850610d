mod Apart
pub mod Carried
pub mod Costing
pub mod KeptCells
pub mod Leading
mod Listed
mod Numbers
pub mod Placed
pub mod Removing
mod Resetting
pub mod Rows
mod Seeing
pub mod Violated
pub mod Walking
