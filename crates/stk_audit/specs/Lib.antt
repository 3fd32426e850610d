pub mod Hands
pub mod Progressing
pub mod Stepping
