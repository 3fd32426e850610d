pub mod Looks
pub mod Rules
pub mod Normal
pub mod Rights
pub mod Readings
pub mod Carries
