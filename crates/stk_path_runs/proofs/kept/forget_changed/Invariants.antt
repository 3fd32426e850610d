use Rattle.std.proofs.Common.{◌≡◌}
use Rattle.stk_path_runs.specs.Rows.{forgets_in}
use Rattle.stk_path_runs.proofs.Forgotten.{first_forgotten}
use Rattle.stk_path_runs.proofs.kept.forget_changed.Given as goal

abbrev pub invariant-loop-position : goal.invariant-loop-position
invariant-loop-position l = l.kept.items ≡ first_forgotten (forgets_in l.row) 0 l.position l.initial.kept.items
