use Rattle.std.proofs.Common.{◌≡◌, drop}
use Rattle.stk_proofs.specs.Distinct.{distinct_behind, distinct}
use Rattle.stk_proofs.proofs.distinct.distinct_of_few.Given as goal

abbrev pub invariant-loop-literal : goal.invariant-loop-literal
invariant-loop-literal l = distinct_behind l.found.items (drop l.literal-index l.literals) ≡ distinct l.literals
