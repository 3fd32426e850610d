-- Numbers only grow by more digits.
use Rattle.std.proofs.Common.{◌≡◌, ℕ, ◌≤◌, ◌<◌, ◌+◌, ◌-◌, ◌*◌, ◌^◌, true, false, Bool, List, [], ◌∷◌, refl, arith, sym, ap, ◌∙◌}
use Rattle.std.specs.Prelude.{nat_lt, Some, None, if◌then◌else◌}
use Rattle.std.proofs.lemmas.Bool.Decides.{nat_tests}
use Rattle.stk_base.specs.Text.{decimal_behind}
use Rattle.stk_script_trees.specs.Numbers.{small}

le_behind : (n : ℕ) (ds : List ℕ) → n ≤ decimal_behind n ds
le_behind n [] = omega arith
le_behind n (c ∷ cs) = omega (arith, le_behind (n * 10 + (c - 48)) cs)

too_great : (n : ℕ) → small n ≡ None → 2 ^ 128 ≤ n
too_great n e = by (nat_lt n (2 ^ 128)) refl
  where
    by : (t : Bool) → nat_lt n (2 ^ 128) ≡ t → 2 ^ 128 ≤ n
    by true h = absurd (let k : Some n ≡ None = sym (ap (λ b. if b then Some n else None) h) ∙ e in cc)
    by false h = grind (arith, nat_tests)

none_of : (n : ℕ) → 2 ^ 128 ≤ n → small n ≡ None
none_of n h = let t : nat_lt n (2 ^ 128) ≡ false = grind (arith, nat_tests) in ap (λ b. if b then Some n else None) t

-- what is too great stays so
pub stays_great : (n : ℕ) (ds : List ℕ) → small n ≡ None → small (decimal_behind n ds) ≡ None
stays_great n ds e = none_of (decimal_behind n ds) (omega (arith, too_great n e, le_behind n ds))

pub is_small : (n : ℕ) → n < 2 ^ 128 → small n ≡ Some n
is_small n h = let t : nat_lt n (2 ^ 128) ≡ true = grind (arith, nat_tests) in ap (λ b. if b then Some n else None) t
