use Rattle.std.proofs.Common.{◌≡◌, ◌≤◌, length}
use Rattle.stk_proofs.specs.FirstWord.{behind_line}
use Rattle.stk_proofs.proofs.words.behind_line.Given as goal

abbrev pub invariant-loop-first : goal.invariant-loop-first
invariant-loop-first l = record {
  behind : behind_line l.rest ≡ behind_line l.text;
  within : length l.rest ≤ length l.text;
}

abbrev pub decreases-loop-first : goal.decreases-loop-first
decreases-loop-first l = length l.rest
