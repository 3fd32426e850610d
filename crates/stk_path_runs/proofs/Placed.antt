-- First places.
use Rattle.std.proofs.Common.{ℕ, zero, suc, ◌≡◌, ◌∙◌, Bool, true, false, ◌==◌, List, [], ◌∷◌, ◌++◌, length, get_or, refl, sym, ap, Option, Some, None, ℤ, pos}
use Rattle.std.specs.Prelude.{if◌then◌else◌, slice_get, option_and_then}
use Rattle.std.specs.Option.{option_map}
use Rattle.stk_meaning.specs.Keys.{Key, KeyInfo}
use Rattle.stk_meaning.specs.Paths.{same_key, number_under}
use Rattle.stk_path_runs.specs.Places.{first_place, first_of, key_place, number_in}

next_place : (b c : Bool) (o : Option ℕ) (n : ℕ) → option_map suc (if c then first_of o n else o) ≡ (if c then first_of (option_map suc o) (suc n) else option_map suc o)
next_place b true None n = refl
next_place b true (Some i) n = refl
next_place b false o n = refl

first_before : (b c : Bool) (o : Option ℕ) (n : ℕ) → (if b then Some 0 else option_map suc (if c then first_of o n else o)) ≡ (if c then first_of (if b then Some 0 else option_map suc o) (suc n) else (if b then Some 0 else option_map suc o))
first_before true true o n = refl
first_before true false o n = refl
first_before false c o n = next_place false c o n

-- one element more
pub first_place-push : {A : Type 0} (test : A → Bool) (xs : List A) (y : A) → first_place test (xs ++ y ∷ []) ≡ (if test y then first_of (first_place test xs) (length xs) else first_place test xs)
first_place-push test [] y = refl
first_place-push test (x ∷ xs) y = ap (λ o. if test x then Some 0 else option_map suc o) (first_place-push test xs y) ∙ first_before (test x) (test y) (first_place test xs) (length xs)

-- the number of a key
pub number_in-suc : (o : Option ℕ) (x : ℤ) (xs : List ℤ) → number_in (option_map suc o) (x ∷ xs) ≡ number_in o xs
number_in-suc None x xs = refl
number_in-suc (Some i) x xs = refl

number_in-none : (o : Option ℕ) → number_in o [] ≡ pos 0
number_in-none None = refl
number_in-none (Some zero) = refl
number_in-none (Some (suc i)) = refl

number_by : (b : Bool) (o : Option ℕ) (x : ℤ) (xs : List ℤ) → (if b then x else number_in o xs) ≡ number_in (if b then Some 0 else option_map suc o) (x ∷ xs)
number_by true o x xs = refl
number_by false o x xs = sym (number_in-suc o x xs)

pub number_under-in : (keys : List KeyInfo) (xs : List ℤ) (key : Key) → number_under keys xs key ≡ number_in (key_place key keys) xs
number_under-in [] xs key = refl
number_under-in (k ∷ ks) [] key = sym (number_in-none (key_place key (k ∷ ks)))
number_under-in (k ∷ ks) (x ∷ xs) key = ap (λ (z : ℤ). if same_key k.key key then x else z) (number_under-in ks xs key) ∙ number_by (same_key k.key key) (key_place key ks) x xs
