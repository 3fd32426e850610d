-- Comparisons and sums of addresses.
use Rattle.std.proofs.Common.{ℕ, ◌≡◌, ◌+◌, ◌-◌, ◌^◌, ◌%◌, ◌≤◌, ℤ, pos, true, refl, ap, ◌∙◌, arith}
use Rattle.std.specs.Prelude.{nat_le, nat_lt}
use Rattle.stk_numbers.specs.Kinds.{fits}
use Rattle.stk_numbers.proofs.Machine.{again, same}
use Rattle.std.proofs.lemmas.Int.{ints}
use Rattle.stk_ctype.specs.declared.kind.IntKind.TheVariants.{ULong}
use Rattle.stk_numbers.specs.declared.operators.ArithOp.TheVariants.{Add}
use Rattle.stk_numbers.specs.declared.operators.CompareOp.TheVariants.{Lt, Le, Ne}
use Rattle.stk_numbers.specs.Values.{arith as arith_of, compared}

pub begins : (n : ℕ) → compared Ne (pos n) (pos 0) ≡ nat_le 1 n
begins n = grind (arith, ints)

pub ends : (n s : ℕ) → s ≤ 2 ^ 64 - 1 → compared Le (pos n) (pos (2 ^ 64 - 1 - s)) ≡ nat_le (n + s) (2 ^ 64 - 1)
ends n s h = grind (arith, ints, h)

pub before : (n e : ℕ) → compared Lt (pos n) (pos e) ≡ nat_lt n e
before n e = grind (arith, ints)

pub summed : (n s : ℕ) → arith_of Add ULong (pos n) (pos s) ≡ pos ((n + s) % 2 ^ 64)
summed n s = refl

fits_long : (n : ℕ) → n ≤ 2 ^ 64 - 1 → fits ULong (pos n) ≡ true
fits_long n h = grind (arith, ints, h)

-- what the code reads again
pub stays : (n : ℕ) (r : ℤ) → n ≤ 2 ^ 64 - 1 → r ≡ pos n → again r ≡ pos n
stays n r small is = ap again is ∙ same ULong (pos n) (fits_long n small)
