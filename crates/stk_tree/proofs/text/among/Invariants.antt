use Rattle.std.proofs.Common.{◌≢◌, ◌<◌, ℕ, get_or}
use Rattle.stk_tree.specs.Spelling.{spelling_of}
use Rattle.stk_tree.specs.declared.fixed.Fixed.{Fixed}
use Rattle.stk_tree.proofs.text.among.Given as goal

abbrev pub invariant-loop-fixed : goal.invariant-loop-fixed
invariant-loop-fixed l = (k : ℕ) (other : Fixed) → k < l.fixed-index → spelling_of (get_or l.list k other) ≢ l.text
