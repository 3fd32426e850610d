pub mod Closing
pub mod Parts
pub mod Wrote
pub use Rattle.stk_goals.specs.Queries
