use Rattle.std.proofs.Common.{◌≡◌, ◌++◌, List, drop}
use Rattle.stk_meaning.specs.Keys as runs
use Rattle.stk_path_runs.specs.Places.{IsKeyIndex}
use Rattle.stk_path_runs.specs.Rows.{loop_slots}
use Rattle.stk_path_runs.proofs.loop_rows.loop_slots.Given as goal

abbrev pub invariant-loop-j : goal.invariant-loop-j
invariant-loop-j l = (keys : List runs.KeyInfo) → IsKeyIndex l.index keys → l.out.items ++ loop_slots keys l.node (drop l.j-index l.list) ≡ loop_slots keys l.node l.list
