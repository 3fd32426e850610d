pub mod Every
pub mod Examples
pub mod Firsts
