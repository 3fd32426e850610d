pub mod Words
pub mod Shown
pub mod Checked
pub mod Targets
