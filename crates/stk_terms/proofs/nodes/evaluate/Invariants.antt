use Rattle.std.proofs.Common.{◌≡◌, length}
use Rattle.stk_terms.specs.Keys.{stored}
use Rattle.stk_terms.specs.Orders.{AreNumbers}
use Rattle.stk_terms.proofs.nodes.evaluate.Given as goal

-- the numbers so far
abbrev pub invariant-loop-place : goal.invariant-loop-place
invariant-loop-place l = record {
  are : AreNumbers (stored l.inputs l.nodes) l.residues l.order l.place-index l.numbers;
  long : length l.numbers ≡ length l.initial.numbers;
}
