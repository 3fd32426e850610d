use Rattle.std.proofs.Common.{◌+◌, ◌-◌}
use Rattle.stk_terms.specs.Keys.{stored}
use Rattle.stk_terms.specs.Parts.{AreMarked}
use Rattle.stk_terms.proofs.marks.parts.Given as goal

-- the places that are behind
abbrev pub invariant-loop-k : goal.invariant-loop-k
invariant-loop-k l = AreMarked (stored l.inputs l.nodes) l.place (l.place + 1 - l.k) l.marks.items
