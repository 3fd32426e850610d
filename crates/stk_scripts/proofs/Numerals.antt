-- Numerals and the numbers that they write.
use Rattle.std.proofs.Common.{◌⊎◌, inl, inr, cond, length-append, ◌≡◌, ℕ, zero, suc, ◌<◌, ◌≤◌, ◌+◌, ◌-◌, ◌*◌, ◌/◌, ◌%◌, ◌^◌, Bool, true, false, ◌&&◌, List, [], ◌∷◌, ◌++◌, length, refl, ap, sym, ◌∙◌, append_assoc, append-nil, subst, arith}
use Rattle.std.specs.Prelude.{Option, Some, None, decimal, get_or, nat_eq, nat_le, nat_lt, not}
use Rattle.std.specs.List.{list_all}
use Rattle.std.specs.Str.Parse.{AllDigits, digits_value, digits_value_after}
use Rattle.std.specs.Char.{digit_value}
use Rattle.std.proofs.lemmas.Fmt.{decimal_is_IsNumeral_wide, length-decimal-le_wide, decimal_step_wide, decimal_by_steps_wide, decimal_digit}
use Rattle.std.proofs.lemmas.Str.Parse.{digit_from_value}
use Rattle.std.proofs.lemmas.Str.{digit_value_digit}
use Rattle.std.proofs.lemmas.Bool.Decides.{nat_tests}
use Rattle.std.proofs.Math.ListN.{get_or-append}
use Rattle.stk_base.specs.Text as base
use Rattle.stk_base.specs.Text.{same_text}
use Rattle.stk_scripts.specs.Texts.{is_digit}
use Rattle.stk_scripts.specs.Numerals.{has_lead, is_numeral, numeral}
use Rattle.stk_scripts.proofs.Bytes.{and_both, cond_true, chosen_way}

all_digits : (ds : List ℕ) → AllDigits 10 ds → list_all is_digit ds ≡ true
all_digits [] d = refl
all_digits (c ∷ cs) d =
    let k = digit_from_value c d.0 in
    let one : is_digit c ≡ true = grind (arith, nat_tests) in
    subst (λ x. x && list_all is_digit cs ≡ true) (sym one) (all_digits cs d.1)

same_value : (n : ℕ) (ds : List ℕ) → AllDigits 10 ds → base.decimal_behind n ds ≡ digits_value_after 10 n ds
same_value n [] d = refl
same_value n (c ∷ cs) d =
    let k = digit_value_digit c (digit_from_value c d.0) in
    let same : n * 10 + (c - 48) ≡ n * 10 + digit_value c = omega arith in
    ap (λ x. base.decimal_behind x cs) same ∙ same_value (n * 10 + digit_value c) cs d.1

-- the first digit of a number that isn't 0
abbrev Leads : ℕ → List ℕ → Type 0
Leads m ds = (0 < length ds) × (0 < m → 48 < get_or ds 0 0)

leads : (n : ℕ) → n < 10 ^ 64 → Leads n (decimal n)
leads = decimal_by_steps_wide Leads (λ m l. (omega arith, λ a. omega arith))
    (λ m ds l h. (omega (arith, length-append ds ((48 + m % 10) ∷ [])), λ a. omega (arith, get_or-append ds ((48 + m % 10) ∷ []) 0 0 h.0, h.1 (omega arith))))

lead_of : (ds : List ℕ) → 0 < length ds → 48 < get_or ds 0 0 → has_lead ds ≡ true
lead_of [] s h = absurd (omega arith)
lead_of (b ∷ []) s h = refl
lead_of (b ∷ c ∷ ds) s h = grind (arith, nat_tests)

has_lead_of : (n : ℕ) → n < 10 ^ 64 → has_lead (decimal n) ≡ true
has_lead_of zero h = ap has_lead (decimal_digit 0 (omega arith))
has_lead_of (suc n) h = let k = leads (suc n) h in lead_of (decimal (suc n)) k.0 (k.1 (omega arith))

three : (a b c : Bool) → a ≡ true → b ≡ true → c ≡ true → a && b && c ≡ true
three true true true p q r = refl
three false b c p q r = absurd cc
three true false c p q r = absurd cc
three true true false p q r = absurd cc

at_most : (n m : ℕ) → n ≤ m → nat_le n m ≡ true
at_most n m h = grind (arith, nat_tests)

below : (n m : ℕ) → n < m → nat_lt n m ≡ true
below n m h = grind (arith, nat_tests)

pub numeral_of : (n : ℕ) → n < 2 ^ 128 → numeral (decimal n) ≡ Some n
numeral_of n h =
    let small : n < 10 ^ 64 = omega arith in
    let k = decimal_is_IsNumeral_wide n small in
    let value : base.decimal (decimal n) ≡ n = same_value 0 (decimal n) k.0.1 ∙ k.1 in
    let few : length (decimal n) ≤ 39 = length-decimal-le_wide 39 n (omega arith) (omega arith) small in
    cond_true (is_numeral (decimal n)) _ None (three _ _ _ (all_digits (decimal n) k.0.1) (has_lead_of n small) (at_most _ 39 few))
    ∙ cond_true (nat_lt (base.decimal (decimal n)) (2 ^ 128)) (Some (base.decimal (decimal n))) None (below _ _ (omega (arith, value)))
    ∙ ap Some value

-- The other way

is_it : (b n : ℕ) → nat_eq b n ≡ true → b ≡ n
is_it b n h = grind (arith, nat_tests)

digit_range : (c : ℕ) → is_digit c ≡ true → (48 ≤ c) × (c ≤ 57)
digit_range c h = grind (arith, nat_tests)

below_of : (n m : ℕ) → nat_lt n m ≡ true → n < m
below_of n m h = grind (arith, nat_tests)

pub same_is : (a b : List ℕ) → same_text a b ≡ true → a ≡ b
same_is [] [] e = refl
same_is [] (y ∷ b) e = absurd cc
same_is (x ∷ a) [] e = absurd cc
same_is (x ∷ a) (y ∷ b) e =
    let k = and_both (nat_eq x y) (same_text a b) e in
    let one : x ≡ y = is_it x y k.0 in
    ap (λ u. u ∷ a) one ∙ ap (λ u. y ∷ u) (same_is a b k.1)

digits_all : (ds : List ℕ) → list_all is_digit ds ≡ true → AllDigits 10 ds
digits_all [] h = tt
digits_all (c ∷ cs) h =
    let k = and_both (is_digit c) (list_all is_digit cs) h in
    let r = digit_range c k.0 in
    (omega (arith, digit_value_digit c r), digits_all cs k.1)

le_behind : (n : ℕ) (ds : List ℕ) → n ≤ base.decimal_behind n ds
le_behind n [] = omega arith
le_behind n (c ∷ cs) = omega (arith, le_behind (n * 10 + (c - 48)) cs)

-- digits behind a number that isn't 0 are the last ones of the whole
behind_is : (n : ℕ) (ds : List ℕ) → 0 < n → list_all is_digit ds ≡ true → base.decimal_behind n ds < 10 ^ 64 → decimal (base.decimal_behind n ds) ≡ decimal n ++ ds
behind_is n [] some d small = sym (append-nil (decimal n))
behind_is n (c ∷ cs) some d small =
    let k = and_both (is_digit c) (list_all is_digit cs) d in
    let r = digit_range c k.0 in
    let m : ℕ = n * 10 + (c - 48) in
    let front : m / 10 ≡ n = omega (arith, r.0, r.1) in
    let end : 48 + m % 10 ≡ c = omega (arith, r.0, r.1) in
    behind_is m cs (omega arith) k.1 small
    ∙ ap (λ x. x ++ cs) (decimal_step_wide m (omega arith) (omega (arith, le_behind m cs)) ∙ (λ i. decimal (front i) ++ (end i ∷ [])))
    ∙ append_assoc (decimal n) (c ∷ []) cs

lead_is : (b c : ℕ) (bs : List ℕ) → has_lead (b ∷ c ∷ bs) ≡ true → b ≡ 48 → ⊥
lead_is b c bs h e = grind (arith, nat_tests)

digits_are : (ds : List ℕ) → list_all is_digit ds ≡ true → has_lead ds ≡ true → base.decimal ds < 10 ^ 64 → decimal (base.decimal ds) ≡ ds
digits_are [] d l small = absurd cc
digits_are (c ∷ []) d l small =
    let k = and_both (is_digit c) true d in
    let r = digit_range c k.0 in
    decimal_digit (0 * 10 + (c - 48)) (omega (arith, r.0, r.1)) ∙ ap (λ x. x ∷ []) (omega (arith, r.0, r.1))
digits_are (c ∷ e ∷ cs) d l small =
    let k = and_both (is_digit c) (list_all is_digit (e ∷ cs)) d in
    let r = digit_range c k.0 in
    let no : c ≡ 48 → ⊥ = lead_is c e cs l in
    let is : 48 + (0 * 10 + (c - 48)) ≡ c = omega (arith, r.0, r.1) in
    let positive : 0 < 0 * 10 + (c - 48) = omega (arith, r.0, r.1, no) in
    behind_is (0 * 10 + (c - 48)) (e ∷ cs) positive k.1 small
    ∙ ap (λ x. x ++ (e ∷ cs)) (decimal_digit (0 * 10 + (c - 48)) (omega (arith, r.0, r.1)) ∙ ap (λ x. x ∷ []) is)

pub numeral_is : (t : List ℕ) (n : ℕ) → numeral t ≡ Some n → t ≡ decimal n
numeral_is t n e = elim (chosen_way (is_numeral t) (cond (nat_lt (base.decimal t) (2 ^ 128)) (Some (base.decimal t)) None) None (Some n) e) [
  | inr h ↦ absurd (let k = h.1 in cc)
  | inl h ↦ elim (chosen_way (nat_lt (base.decimal t) (2 ^ 128)) (Some (base.decimal t)) None (Some n) h.1) [
    | inr k ↦ absurd (let l = k.1 in cc)
    | inl k ↦
        let b = and_both (list_all is_digit t && has_lead t) (nat_le (length t) 39) h.0 in
        let a = and_both (list_all is_digit t) (has_lead t) b.0 in
        let value : base.decimal t ≡ n = (let l = k.1 in cc) in
        let small : base.decimal t < 10 ^ 64 = omega (arith, below_of _ _ k.0) in
        sym (ap decimal (sym value) ∙ digits_are t a.0 a.1 small)
  ]
]
