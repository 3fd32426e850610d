-- What stands between two quotes.
use Rattle.std.proofs.Common.{◌≡◌, ℕ, Bool, true, false, List, [], ◌∷◌, ◌++◌, Some, None, nat_eq, refl, sym, ap, ◌∙◌, arith, if◌then◌else◌}
use Rattle.std.specs.Option.{option_map}
use Rattle.stk_numbers.specs.Characters.{between, without_last}

mapped : (b : Bool) (x : ℕ) (xs : List ℕ) → option_map (λ t. x ∷ t) (if b then Some xs else None) ≡ (if b then Some (x ∷ xs) else None)
mapped true x xs = refl
mapped false x xs = refl

last_of : (quote l : ℕ) (xs : List ℕ) → without_last quote (xs ++ (l ∷ [])) ≡ (if nat_eq l quote then Some xs else None)
last_of quote l [] = refl
last_of quote l (x ∷ []) = mapped (nat_eq l quote) x []
last_of quote l (x ∷ y ∷ ys) = ap (option_map (λ t. x ∷ t)) (last_of quote l (y ∷ ys)) ∙ mapped (nat_eq l quote) x (y ∷ ys)

same_eq : (a b : ℕ) → a ≡ b → nat_eq a b ≡ true
same_eq a b e = grind arith

other_eq : (a b : ℕ) → (a ≡ b → ⊥) → nat_eq a b ≡ false
other_eq a b e = grind arith

chosen : {A : Type 0} (b c : Bool) (x y : A) → b ≡ c → (if b then x else y) ≡ (if c then x else y)
chosen b c x y e = ap (λ t. if t then x else y) e

split : (quote first l : ℕ) (text rest inside : List ℕ) → text ≡ first ∷ rest → rest ≡ inside ++ (l ∷ []) → between quote text ≡ (if nat_eq first quote then (if nat_eq l quote then Some inside else None) else None)
split quote first l text rest inside whole ends =
    ap (between quote) whole
    ∙ ap (λ r. if nat_eq first quote then r else None) (ap (without_last quote) ends ∙ last_of quote l inside)

pub between_quotes : (quote first l : ℕ) (text rest inside : List ℕ) → text ≡ first ∷ rest → rest ≡ inside ++ (l ∷ []) → first ≡ quote → l ≡ quote → Some inside ≡ between quote text
between_quotes quote first l text rest inside whole ends opens closes =
    sym (split quote first l text rest inside whole ends
    ∙ chosen (nat_eq first quote) true (if nat_eq l quote then Some inside else None) None (same_eq first quote opens)
    ∙ chosen (nat_eq l quote) true (Some inside) None (same_eq l quote closes))

pub not_opened : (quote first l : ℕ) (text rest inside : List ℕ) → text ≡ first ∷ rest → rest ≡ inside ++ (l ∷ []) → (first ≡ quote → ⊥) → None ≡ between quote text
not_opened quote first l text rest inside whole ends opens =
    sym (split quote first l text rest inside whole ends
    ∙ chosen (nat_eq first quote) false (if nat_eq l quote then Some inside else None) None (other_eq first quote opens))

pub not_closed : (quote first l : ℕ) (text rest inside : List ℕ) → text ≡ first ∷ rest → rest ≡ inside ++ (l ∷ []) → first ≡ quote → (l ≡ quote → ⊥) → None ≡ between quote text
not_closed quote first l text rest inside whole ends opens closes =
    sym (split quote first l text rest inside whole ends
    ∙ chosen (nat_eq first quote) true (if nat_eq l quote then Some inside else None) None (same_eq first quote opens)
    ∙ chosen (nat_eq l quote) false (Some inside) None (other_eq l quote closes))
