use Rattle.std.proofs.Common.{◌≡◌, ◌≤◌, ◌++◌, length}
use Rattle.std.specs.Prelude.{sum}
use Rattle.stk_terms.specs.Fitting.{AreWidths}
use Rattle.stk_goal_clauses.specs.Reading.{residues_in}
use Rattle.stk_goal_clauses.proofs.reading.residues_from.Given as goal

abbrev pub invariant-loop-width : goal.invariant-loop-width
invariant-loop-width l = record {
  fit : AreWidths l.rest;
  enough : sum l.rest ≤ length l.left;
  whole : l.numbers.items ++ residues_in l.rest l.left ≡ residues_in l.widths l.values;
}

abbrev pub decreases-loop-width : goal.decreases-loop-width
decreases-loop-width l = length l.rest
