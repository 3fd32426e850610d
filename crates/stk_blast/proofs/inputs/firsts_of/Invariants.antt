use Rattle.std.proofs.Common.{◌≡◌, ◌+◌, ◌<◌, ℕ, length, get_or, take}
use Rattle.std.specs.Prelude.{sum}
use Rattle.stk_blast.proofs.inputs.firsts_of.Given as goal

abbrev pub invariant-loop-i : goal.invariant-loop-i
invariant-loop-i l = record {
  long : length l.firsts.items ≡ l.i;
  next : l.first ≡ 1 + sum (take l.i l.widths);
  each : (k : ℕ) → k < l.i → get_or l.firsts.items k 0 ≡ 1 + sum (take k l.widths);
}
