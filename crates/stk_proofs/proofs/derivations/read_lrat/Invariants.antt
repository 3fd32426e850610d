use Rattle.std.proofs.Common.{◌≡◌, ◌≤◌, ◌+◌, ◌^◌, ◌++◌, List, length}
use Rattle.stk_clauses.specs.declared.derivation.Derived.{Derived}
use Rattle.stk_proofs.specs.Words.{words_of}
use Rattle.stk_proofs.specs.Lrat.{AreLratSteps}
use Rattle.stk_proofs.proofs.derivations.read_lrat.Given as goal

abbrev pub invariant-loop-word : goal.invariant-loop-word
invariant-loop-word l = record {
  onto : (ss : List Derived) → AreLratSteps l.id (words_of l.rest) ss → AreLratSteps (l.given + 1) (words_of l.bytes) (l.steps.items ++ ss);
  from : (all : List Derived) → AreLratSteps (l.given + 1) (words_of l.bytes) all → (ss : List Derived) × (all ≡ l.steps.items ++ ss) × AreLratSteps l.id (words_of l.rest) ss;
  below : l.id ≤ 2 ^ 32;
}

abbrev pub decreases-loop-word : goal.decreases-loop-word
decreases-loop-word l = length l.rest
