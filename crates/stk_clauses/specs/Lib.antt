pub mod Literals
pub mod Cut
pub mod Propagation
pub mod Hints
pub mod Derivations
pub mod Laws
