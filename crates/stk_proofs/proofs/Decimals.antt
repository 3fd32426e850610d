-- Decimal numbers that count up to a bound.
use Rattle.std.proofs.Common.{◌≡◌, ℕ, ◌+◌, ◌-◌, ◌*◌, ◌≤◌, ◌<◌, min, true, false, not, ◌&&◌, List, [], ◌∷◌, length, drop, get_or, drop-cons, add-one, refl, sym, ap, ◌∙◌, arith}
use Rattle.std.specs.List.{list_all}
use Rattle.std.proofs.lemmas.Bool.{and_parts}
use Rattle.std.proofs.Math.ListN.{drop_of_length-le}
use Rattle.stk_proofs.specs.Numbers.{is_digit, has_leading_zero, is_numeral}
use Rattle.stk_base.specs.Text.{decimal, decimal_behind}

step : (v d C : ℕ) → 1 ≤ C → min (min v C * 10 + d) C ≡ min (v * 10 + d) C
step v d C h = omega arith

-- the digits behind a number make the same, up to a bound, of the number up to the bound
pub up_to : (C : ℕ) → 1 ≤ C → (v w : ℕ) (bs : List ℕ) → min v C ≡ min w C → min (decimal_behind v bs) C ≡ min (decimal_behind w bs) C
up_to C h v w [] same = same
up_to C h v w (b ∷ bs) same = up_to C h (v * 10 + (b - 48)) (w * 10 + (b - 48)) bs (sym (step v (b - 48) C h) ∙ (ap (λ u. min (u * 10 + (b - 48)) C) same ∙ step w (b - 48) C h))

-- one digit more
pub goes_on : (text : List ℕ) (i number next : ℕ) → i < length text → number ≤ 2147483648 → min (decimal_behind number (drop i text)) 2147483648 ≡ min (decimal text) 2147483648 → list_all is_digit (drop i text) ≡ true
    → next ≡ min (number * 10 + (get_or text i 0 - 48)) 2147483648 → (min (decimal_behind next (drop (i + 1) text)) 2147483648 ≡ min (decimal text) 2147483648) × (next ≤ 2147483648) × (list_all is_digit (drop (i + 1) text) ≡ true)
goes_on text i number next h few same digits is =
    let at : drop i text ≡ get_or text i 0 ∷ drop (i + 1) text = drop-cons text i 0 h ∙ ap (λ n. get_or text i 0 ∷ drop n text) (sym (add-one i)) in
    let long : min next 2147483648 ≡ min (number * 10 + (get_or text i 0 - 48)) 2147483648 = omega arith in
    let all : is_digit (get_or text i 0) && list_all is_digit (drop (i + 1) text) ≡ true = sym (ap (list_all is_digit) at) ∙ digits in
    (up_to 2147483648 (omega arith) next (number * 10 + (get_or text i 0 - 48)) (drop (i + 1) text) long ∙ (ap (λ bs. min (decimal_behind number bs) 2147483648) (sym at) ∙ same), omega arith, (and_parts _ _ all).1)

pub ended : (text : List ℕ) (i number : ℕ) → length text ≤ i → number ≤ 2147483648 → min (decimal_behind number (drop i text)) 2147483648 ≡ min (decimal text) 2147483648 → number ≡ min (decimal text) 2147483648
ended text i number h few same =
    let none : drop i text ≡ [] = drop_of_length-le text h in
    let own : min number 2147483648 ≡ min (decimal text) 2147483648 = ap (λ bs. min (decimal_behind number bs) 2147483648) (sym none) ∙ same in
    omega arith

-- ---- whether a word is a number

pub numeral_by : (w : List ℕ) → (length w ≡ 0 → ⊥) → is_numeral w ≡ not (has_leading_zero w) && list_all is_digit w
numeral_by [] some = absurd (some refl)
numeral_by (b ∷ bs) some = refl

pub no_numeral : (w : List ℕ) → length w ≡ 0 → is_numeral w ≡ false
no_numeral [] none = refl
no_numeral (b ∷ bs) none = absurd (omega (arith, none))
