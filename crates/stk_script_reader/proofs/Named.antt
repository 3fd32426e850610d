-- What a name stands for.
use Rattle.std.proofs.Common.{◌≡◌, ℕ, ◌<◌, Bool, true, false, List, [], ◌∷◌, length, refl, sym, ap, subst, ◌∙◌, if◌then◌else◌}
use Rattle.std.specs.Prelude.{Some}
use Rattle.stk_base.specs.Text.{same_text}
use Rattle.stk_terms.specs.Terms.{Stored}
use Rattle.stk_terms.specs.Values.{width_at, number_at}
use Rattle.stk_scripts.specs.Syntax.{named}
use Rattle.stk_scripts.specs.Scripts.{bits, found, some_bits}
use Rattle.stk_script_reader.specs.Standing.{widths_named, bits_named, AllStand, IsTerm}

some_is : {A : Type 0} (x y : A) → Some x ≡ Some y → x ≡ y
some_is x y e = cc

-- a place that is found, as the first of names or among the others
data Found (x : List ℕ × ℕ) (xs : List (List ℕ × ℕ)) (n : List ℕ) (j : ℕ) : Type 0 where
  here : same_text x.0 n ≡ true → x.1 ≡ j → Found x xs n j
  behind : same_text x.0 n ≡ false → found xs n ≡ Some j → Found x xs n j

found_way : (x : List ℕ × ℕ) (xs : List (List ℕ × ℕ)) (n : List ℕ) (j : ℕ) → found (x ∷ xs) n ≡ Some j → Found x xs n j
found_way x xs n j e = by (same_text x.0 n) refl
  where
    by : (t : Bool) → same_text x.0 n ≡ t → Found x xs n j
    by true k = here k (some_is x.1 j (sym (ap (λ b. if b then Some x.1 else found xs n) k) ∙ e))
    by false k = behind k (sym (ap (λ b. if b then Some x.1 else found xs n) k) ∙ e)

found_first : {A : Type 0} (x : List ℕ × A) (xs : List (List ℕ × A)) (n : List ℕ) → same_text x.0 n ≡ true → found (x ∷ xs) n ≡ Some x.1
found_first x xs n k = ap (λ b. if b then Some x.1 else found xs n) k

found_behind : {A : Type 0} (x : List ℕ × A) (xs : List (List ℕ × A)) (n : List ℕ) (y : A) → same_text x.0 n ≡ false → found xs n ≡ Some y → found (x ∷ xs) n ≡ Some y
found_behind x xs n y k e = ap (λ b. if b then Some x.1 else found xs n) k ∙ e

module _ (s : Stored) (n : List ℕ) (j : ℕ) where
  -- it is the place of a term
  there : (names : List (List ℕ × ℕ)) → AllStand s names → found names n ≡ Some j → j < length s.terms
  there [] h e = absurd cc
  there (x ∷ xs) h e = elim (found_way x xs n j e) [ here k i ↦ subst (λ i. i < length s.terms) i h.0 | behind k i ↦ there xs h.1 i ]

  -- with its width
  wide : (names : List (List ℕ × ℕ)) → found names n ≡ Some j → found (widths_named s names) n ≡ Some (width_at s j)
  wide [] e = absurd cc
  wide (x ∷ xs) e = elim (found_way x xs n j e) [
    | here k i ↦ found_first (x.0, width_at s x.1) (widths_named s xs) n k ∙ ap (λ i. Some (width_at s i)) i
    | behind k i ↦ found_behind (x.0, width_at s x.1) (widths_named s xs) n (width_at s j) k (wide xs i)
  ]

  -- and its number
  numbered : (r : List ℕ) (names : List (List ℕ × ℕ)) → found names n ≡ Some j → found (bits_named s r names) n ≡ Some (bits (width_at s j) (number_at s r j))
  numbered r [] e = absurd cc
  numbered r (x ∷ xs) e = elim (found_way x xs n j e) [
    | here k i ↦ found_first (x.0, bits (width_at s x.1) (number_at s r x.1)) (bits_named s r xs) n k ∙ ap (λ i. Some (bits (width_at s i) (number_at s r i))) i
    | behind k i ↦ found_behind (x.0, bits (width_at s x.1) (number_at s r x.1)) (bits_named s r xs) n (bits (width_at s j) (number_at s r j)) k (numbered r xs i)
  ]

  pub name_meant : (names : List (List ℕ × ℕ)) → AllStand s names → found names n ≡ Some j → IsTerm s names (named n) j
  name_meant names h e = record { named = h; there = there names h e; wide = wide names e; means = λ r k. ap some_bits (numbered r names e) }
