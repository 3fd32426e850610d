-- How far two addresses are apart, by the difference of the greater one and the smaller one.
use Rattle.std.proofs.Common.{◌≡◌, ℕ, ◌+◌, ◌-◌, ◌^◌, ◌<◌, ◌≤◌, Bool, true, false, pos, ◌-ℤ◌, refl, ap, ◌∙◌, arith, if◌then◌else◌}
use Rattle.std.specs.Prelude.{int_lt}
use Rattle.std.proofs.lemmas.Int.{ints}
use Rattle.std.proofs.Math.Nat.{mod-eq_of_lt}
use Rattle.stk_ctype.specs.declared.kind.IntKind.TheVariants.{ULong}
use Rattle.stk_numbers.specs.Kinds.{wrap}
use Rattle.stk_numbers.specs.Conditions.{apart}

lower : (a b : ℕ) → int_lt (pos a) (pos b) ≡ true → a < b
lower a b e = grind (arith, ints)

not_lower : (a b : ℕ) → int_lt (pos a) (pos b) ≡ false → b ≤ a
not_lower a b e = grind (arith, ints)

-- the difference of an address and one that isn't greater
difference : (a b : ℕ) → b ≤ a → a < 2 ^ 64 → wrap ULong (pos a -ℤ pos b) ≡ pos (a - b)
difference a b l h =
    let e : pos a -ℤ pos b ≡ pos (a - b) = omega (arith, ints) in
    let within : a - b < 2 ^ 64 = omega arith in
    ap (wrap ULong) e ∙ ap pos (mod-eq_of_lt within)

pub apart_is : (a b : ℕ) → a < 2 ^ 64 → b < 2 ^ 64 → (if int_lt (pos a) (pos b) then wrap ULong (pos b -ℤ pos a) else wrap ULong (pos a -ℤ pos b)) ≡ pos (apart a b)
apart_is a b ha hb = by (int_lt (pos a) (pos b)) refl
  where
    by : (c : Bool) → int_lt (pos a) (pos b) ≡ c → (if c then wrap ULong (pos b -ℤ pos a) else wrap ULong (pos a -ℤ pos b)) ≡ pos (apart a b)
    by true e =
        let l = lower a b e in
        let same : b - a ≡ (a - b) + (b - a) = omega arith in
        let le : a ≤ b = omega arith in
        difference b a le hb ∙ ap pos same
    by false e =
        let l = not_lower a b e in
        let same : a - b ≡ (a - b) + (b - a) = omega arith in
        difference a b l ha ∙ ap pos same
