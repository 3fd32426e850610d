use Rattle.std.proofs.Common.{length}
use Rattle.stk_numbers.specs.declared.conditions.Kinds.{Kinds}
use Rattle.stk_records.specs.Kinds.{no_kinds, AreNames}
use Rattle.stk_records.proofs.kinds.kinds_in.Given as goal

abbrev pub invariant-names : goal.invariant-names
invariant-names l = ((ks : Kinds) → AreNames no_kinds l.text ks → AreNames l.kinds l.left ks) × ((ks : Kinds) → AreNames l.kinds l.left ks → AreNames no_kinds l.text ks)

abbrev pub decreases-names : goal.decreases-names
decreases-names l = length l.left
