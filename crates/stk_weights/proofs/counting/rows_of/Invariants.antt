use Rattle.std.proofs.Common.{ℕ, ◌≡◌, ◌+◌, ◌≤◌, drop, length}
use Rattle.stk_weights.specs.Counting.{count_in, last_in, times_in, AllBelow}
use Rattle.stk_weights.proofs.counting.rows_of.Given as goal

abbrev pub invariant-loop-register : goal.invariant-loop-register
invariant-loop-register l = record {
  few : (r : ℕ) → count_in l.rows.items r ≤ l.register-index;
  counts : (r : ℕ) → count_in l.rows.items r + times_in r (drop l.register-index l.registers) ≡ times_in r l.registers;
  lasts : (r : ℕ) → last_in l.rows.items r ≡ 0;
  known : (n : ℕ) → length l.rows.items ≤ n → AllBelow n (drop l.register-index l.registers) → AllBelow n l.registers;
}
