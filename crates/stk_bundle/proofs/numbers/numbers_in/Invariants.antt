use Rattle.std.proofs.Common.{ℕ, List, ◌++◌, length}
use Rattle.stk_bundle.specs.Numbers.{AreNumbers}
use Rattle.stk_bundle.proofs.numbers.numbers_in.Given as goal

abbrev pub invariant-loop-left : goal.invariant-loop-left
invariant-loop-left l = record {
  front : (rest : List ℕ) → AreNumbers l.left rest → AreNumbers l.text (l.numbers.items ++ rest);
  whole : (ns : List ℕ) → AreNumbers l.text ns → (rest : List ℕ) × AreNumbers l.left rest;
}

abbrev pub decreases-loop-left : goal.decreases-loop-left
decreases-loop-left l = length l.left
