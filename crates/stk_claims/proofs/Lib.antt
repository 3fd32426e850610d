pub mod Fitting
pub mod Asked
pub mod Texts
pub mod Taken
pub use Rattle.stk_goals.proofs.Made
