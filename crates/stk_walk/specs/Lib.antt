pub mod Validity
pub mod Located
pub mod Starting
pub mod Steps
pub mod Walks
pub mod Walkable
pub use Rattle.stk_path_runs.specs.Rows
pub use Rattle.stk_path_runs.specs.FunctionTables
