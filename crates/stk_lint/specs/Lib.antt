pub mod LawfulText
pub mod Judged
pub mod Candidates
pub mod Lint
pub mod Searched
pub use Rattle.stk_unit_lines.specs.UnitLines
pub use Rattle.stk_unit_lines.specs.Marks
pub use Rattle.stk_query_scripts.specs.Queries
