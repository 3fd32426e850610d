use Rattle.std.proofs.Common.{◌≡◌, ◌++◌}
use Rattle.stk_hits.specs.Tables.{rows_of}
use Rattle.stk_hits.proofs.hit_table.HitTable.rows_of.Given as goal

abbrev pub invariant-loop-hit : goal.invariant-loop-hit
invariant-loop-hit l = l.rows.items ++ rows_of l.candidate l.hit-iterator ≡ rows_of l.candidate l.self.hits
