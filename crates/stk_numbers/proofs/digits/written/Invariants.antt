use Rattle.std.proofs.Common.{◌≡◌, ℕ, drop}
use Rattle.stk_numbers.specs.Digits.{capped, written_behind, written}
use Rattle.stk_numbers.proofs.digits.written.Given as goal

abbrev pub invariant-loop-byte : goal.invariant-loop-byte
invariant-loop-byte l = (n : ℕ) × (l.number ≡ capped n) × (written_behind l.base n (drop l.byte-index l.digits) ≡ written l.base l.digits)
