use Rattle.std.proofs.Common.{◌≡◌, true, length}
use Rattle.stk_path_runs.proofs.Forgotten.{first_forgotten}
use Rattle.stk_path_runs.proofs.kept.forget_all.Given as goal

abbrev pub invariant-loop-at : goal.invariant-loop-at
invariant-loop-at l = (length l.list.items ≡ length l.fn.list.items) × (l.list.items ≡ first_forgotten (λ q. true) 0 l.at l.fn.list.items)
