use Rattle.std.proofs.Common.{ℕ, ◌-◌, ◌≤◌, length}
use Rattle.stk_lex.specs.Gaps.{AreGaps}
use Rattle.stk_lex.proofs.lexing.behind_gaps.Given as goal

abbrev pub invariant-loop-from : goal.invariant-loop-from
invariant-loop-from l = record {
  within : (l.from ≤ l.at) × (l.at ≤ length l.bytes);
  gaps : (to : ℕ) → AreGaps l.bytes l.at to → AreGaps l.bytes l.from to;
}

abbrev pub decreases-loop-from : goal.decreases-loop-from
decreases-loop-from l = length l.bytes - l.at
