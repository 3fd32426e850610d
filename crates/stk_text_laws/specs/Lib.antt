pub mod Cuts
pub mod Stretches
pub mod Semicolons
pub mod Layouts
pub mod Texts
pub mod Words
pub mod Found
pub mod Candidates
