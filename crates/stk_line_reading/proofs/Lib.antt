pub mod Texts
pub mod FirstLines
