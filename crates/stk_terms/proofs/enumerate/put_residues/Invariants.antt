use Rattle.std.proofs.Common.{◌≡◌, ◌≤◌, ◌++◌, length}
use Rattle.stk_terms.specs.Ordered.{bits_in, residues_at}
use Rattle.stk_terms.proofs.enumerate.put_residues.Given as goal

abbrev pub invariant-loop-width : goal.invariant-loop-width
invariant-loop-width l = record {
  left : l.left ≡ bits_in l.rest;
  few : l.left ≤ 16;
  whole : l.residues.items ++ residues_at l.rest l.number ≡ residues_at l.widths l.number;
}

abbrev pub decreases-loop-width : goal.decreases-loop-width
decreases-loop-width l = length l.rest
