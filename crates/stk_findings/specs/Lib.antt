pub mod Searched
pub mod Telling
pub mod Asked
pub mod Answers
pub use Rattle.stk_goals.specs.Rows
pub use Rattle.stk_goals.specs.FunctionTables
pub use Rattle.stk_wide_judge.specs.Wide
