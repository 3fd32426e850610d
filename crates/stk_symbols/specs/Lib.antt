pub mod Valued
pub mod Standing
pub mod Symbolic
pub mod Laws
pub mod Goals
pub mod Earlier
pub mod Maps
pub mod Matters
