-- Decimal numbers that count up to a bound.
use Rattle.std.proofs.Common.{◌≡◌, ℕ, ◌+◌, ◌-◌, ◌*◌, ◌≤◌, ◌<◌, min, Bool, true, false, ◌&&◌, List, [], ◌∷◌, length, drop, get_or, drop-cons, add-one, refl, sym, ap, ◌∙◌, arith}
use Rattle.std.specs.List.{list_all}
use Rattle.std.proofs.Math.ListN.{drop_of_length-le}
use Rattle.stk_records.specs.Words.{is_digit}
use Rattle.stk_base.specs.Text.{decimal, decimal_behind}

step : (v d C : ℕ) → 1 ≤ C → min (min v C * 10 + d) C ≡ min (v * 10 + d) C
step v d C h = omega arith

-- the digits behind a number make the same, up to a bound, of the number up to the bound
pub up_to : (C : ℕ) → 1 ≤ C → (v w : ℕ) (bs : List ℕ) → min v C ≡ min w C → min (decimal_behind v bs) C ≡ min (decimal_behind w bs) C
up_to C h v w [] same = same
up_to C h v w (b ∷ bs) same = up_to C h (v * 10 + (b - 48)) (w * 10 + (b - 48)) bs (sym (step v (b - 48) C h) ∙ (ap (λ u. min (u * 10 + (b - 48)) C) same ∙ step w (b - 48) C h))

and_both : (a b : Bool) → a && b ≡ true → (a ≡ true) × (b ≡ true)
and_both true b e = (refl, e)
and_both false b e = absurd cc

-- one digit more
pub goes_on : (C : ℕ) (text : List ℕ) (i number next : ℕ) → 1 ≤ C → i < length text → number ≤ C → min (decimal_behind number (drop i text)) C ≡ min (decimal text) C → list_all is_digit (drop i text) ≡ true
    → next ≡ min (number * 10 + (get_or text i 0 - 48)) C → (min (decimal_behind next (drop (i + 1) text)) C ≡ min (decimal text) C) × (next ≤ C) × (list_all is_digit (drop (i + 1) text) ≡ true)
goes_on C text i number next some h few same digits is =
    let at : drop i text ≡ get_or text i 0 ∷ drop (i + 1) text = drop-cons text i 0 h ∙ ap (λ n. get_or text i 0 ∷ drop n text) (sym (add-one i)) in
    let long : min next C ≡ min (number * 10 + (get_or text i 0 - 48)) C = omega arith in
    let all : is_digit (get_or text i 0) && list_all is_digit (drop (i + 1) text) ≡ true = sym (ap (list_all is_digit) at) ∙ digits in
    (up_to C some next (number * 10 + (get_or text i 0 - 48)) (drop (i + 1) text) long ∙ (ap (λ bs. min (decimal_behind number bs) C) (sym at) ∙ same), omega arith, (and_both _ _ all).1)

pub ended : (C : ℕ) (text : List ℕ) (i number : ℕ) → length text ≤ i → number ≤ C → min (decimal_behind number (drop i text)) C ≡ min (decimal text) C → number ≡ min (decimal text) C
ended C text i number h few same =
    let none : drop i text ≡ [] = drop_of_length-le text h in
    let own : min number C ≡ min (decimal text) C = ap (λ bs. min (decimal_behind number bs) C) (sym none) ∙ same in
    omega arith
