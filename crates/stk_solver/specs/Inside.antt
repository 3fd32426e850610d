-- What the fields of an analysis hold between its calls.
use Rattle.std.specs.Prelude.{ℕ}
use Rattle.stk_solver.specs.declared.analysis.Analysis.TheInside.{Inside}
use Rattle.stk_solver.specs.Marking.{IsClean}

abbrev pub seen_as : Inside → ℕ
seen_as f = f.marks.vars

abbrev pub IsInside : Inside → Type 0
IsInside f = IsClean f.marks
