use Rattle.std.proofs.Common.{◌≡◌, ◌+◌, ◌≤◌, length}
use Rattle.stk_terms.specs.Ordered.{bits_in}
use Rattle.stk_terms.proofs.enumerate.input_bits.Given as goal

abbrev pub invariant-loop-width : goal.invariant-loop-width
invariant-loop-width l = record {
  sum : l.bits + bits_in l.rest ≡ bits_in l.terms.inputs;
  few : l.bits ≤ 16;
}

abbrev pub decreases-loop-width : goal.decreases-loop-width
decreases-loop-width l = length l.rest
