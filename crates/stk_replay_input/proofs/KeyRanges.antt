-- Numbers in the ranges of their keys, one key after the other.
use Rattle.std.proofs.Common.{◌≡◌, ◌↔◌, ℕ, suc, ◌+◌, ◌<◌, ◌≤◌, Bool, true, false, List, [], ◌∷◌, map, length, drop, get_or, ℤ, None, refl, sym, ap, ◌∙◌, subst, arith}
use Rattle.std.specs.Prelude.{IsTrue, ◌==◌}
use Rattle.std.proofs.lemmas.List.{drop_more}
use Rattle.std.proofs.lemmas.Bool.Decides.{nat_tests}
use Rattle.stk_ctype.specs.declared.kind.IntKind.TheVariants as kind
use Rattle.stk_numbers.specs.Kinds.{fits}
use Rattle.stk_meaning.specs.Keys as keys
use Rattle.stk_meaning.specs.Maps.{AreInRange}
use Rattle.stk_function_env.specs.declared.infos.Key.TheVariants.{Parameter}
use Rattle.stk_function_env.specs.declared.infos.KeyInfo.{KeyInfo}
use Rattle.stk_function_env.specs.Infos.{info_in}

-- what stands for a key that isn't there
abbrev pub no_key : KeyInfo
no_key = record { key = Parameter 0; kind = kind.Bool; size = 0; name = None }

-- keys without numbers
none_left : (k : keys.KeyInfo) (ks : List keys.KeyInfo) (xs : List ℤ) → length xs ≡ 0 → AreInRange (k ∷ ks) xs → ⊥
none_left k ks [] e h = h
none_left k ks (x ∷ xs) e h = absurd (omega (arith, e))

some_is : (n : ℕ) → (suc n == 0) ≡ false
some_is n = grind (arith, nat_tests)

-- numbers without keys
all_told : (xs : List ℤ) (b : Bool) → b ≡ (length xs == 0) → IsTrue b ↔ AreInRange [] xs
all_told [] b e = (λ _. tt, λ _. e)
all_told (x ∷ xs) b e = (λ t. absurd (let none : b ≡ false = e ∙ some_is (length xs) in cc), λ h. absurd h)

module _ (ks : List KeyInfo) (i : ℕ) (rest : List ℤ) (Whole : Type 0) (so_far : Whole ↔ AreInRange (map info_in (drop i ks)) rest) where
  module _ (within : i < length ks) where
    here : Whole ↔ AreInRange (info_in (get_or ks i no_key) ∷ map info_in (drop (i + 1) ks)) rest
    here = subst (λ (l : List KeyInfo). Whole ↔ AreInRange (map info_in l) rest) (drop_more ks i no_key within) so_far

    -- no number is left
    pub too_few : length rest ≡ 0 → Whole → ⊥
    too_few e w = none_left (info_in (get_or ks i no_key)) (map info_in (drop (i + 1) ks)) rest e (here.0 w)

    module _ (x : ℤ) (xs : List ℤ) (is : rest ≡ x ∷ xs) where
      with_first : Whole ↔ AreInRange (info_in (get_or ks i no_key) ∷ map info_in (drop (i + 1) ks)) (x ∷ xs)
      with_first = subst (λ (l : List ℤ). Whole ↔ AreInRange (info_in (get_or ks i no_key) ∷ map info_in (drop (i + 1) ks)) l) is here

      -- the next number isn't in range
      pub not_in_range : fits (get_or ks i no_key).kind x ≡ false → Whole → ⊥
      not_in_range outside w = let inside = (with_first.0 w).0 in absurd cc

      -- it is
      pub next_in_range : fits (get_or ks i no_key).kind x ≡ true → Whole ↔ AreInRange (map info_in (drop (i + 1) ks)) xs
      next_in_range inside = (λ w. (with_first.0 w).1, λ h. with_first.1 (inside, h))

  -- no key is left
  pub last_in_range : drop i ks ≡ [] → (b : Bool) → b ≡ (length rest == 0) → IsTrue b ↔ Whole
  last_in_range e b is =
      let at_end : Whole ↔ AreInRange [] rest = subst (λ (l : List KeyInfo). Whole ↔ AreInRange (map info_in l) rest) e so_far in
      let told = all_told rest b is in
      (λ t. at_end.1 (told.0 t), λ w. told.1 (at_end.0 w))
