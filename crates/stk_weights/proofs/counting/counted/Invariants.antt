use Rattle.std.proofs.Common.{drop}
use Rattle.stk_weights.specs.Counting.{IsCounting}
use Rattle.stk_weights.proofs.counting.counted.Given as goal

abbrev pub invariant-loop-place : goal.invariant-loop-place
invariant-loop-place l = IsCounting l.registers l.events (drop l.place l.events) l.place l.rows.items l.begins.items l.sum
