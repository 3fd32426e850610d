use Rattle.std.proofs.Common.{◌≡◌, pos, replicate}
use Rattle.stk_path_runs.proofs.starting.zeros.Given as goal

abbrev pub invariant-loop-turn : goal.invariant-loop-turn
invariant-loop-turn l = l.out.items ≡ replicate l._turn (pos 0)
