-- Slots of a list.
use Rattle.std.proofs.Common.{ℕ, zero, suc, ◌≡◌, ◌<◌, ◌∙◌, Bool, true, false, ◌==◌, List, [], ◌∷◌, ◌++◌, length, get_or, set, refl, sym, ap, eqb-true, Option, Some, None}
use Rattle.std.specs.Prelude.{if◌then◌else◌}
use Rattle.std.proofs.lemmas.Bool.{eqb-false}
use Rattle.std.proofs.lemmas.List.{get_or-set_same, get_or-set_other}
use Rattle.stk_path_runs.specs.Places.{first_of}

pub empty_behind : (xs : List (Option ℕ)) (k : ℕ) → get_or (xs ++ None ∷ []) k None ≡ get_or xs k None
empty_behind [] zero = refl
empty_behind [] (suc k) = refl
empty_behind (x ∷ xs) zero = refl
empty_behind (x ∷ xs) (suc k) = empty_behind xs k

-- a slot that has a place stays as it is
pub stays : (xs : List (Option ℕ)) (at place q k : ℕ) → get_or xs at None ≡ Some q → get_or xs k None ≡ (if at == k then first_of (get_or xs k None) place else get_or xs k None)
stays xs at place q k e = by (at == k) refl where
  by : (v : Bool) → (at == k) ≡ v → get_or xs k None ≡ (if v then first_of (get_or xs k None) place else get_or xs k None)
  by true h = let there : get_or xs k None ≡ Some q = ap (λ i. get_or xs i None) (sym (eqb-true at k h)) ∙ e in there ∙ sym (ap (λ o. first_of o place) there)
  by false h = refl

-- an empty one takes the place
pub filled : (xs : List (Option ℕ)) (at place k : ℕ) → at < length xs → get_or xs at None ≡ None → get_or (set xs at (Some place)) k None ≡ (if at == k then first_of (get_or xs k None) place else get_or xs k None)
filled xs at place k l e = by (at == k) refl where
  by : (v : Bool) → (at == k) ≡ v → get_or (set xs at (Some place)) k None ≡ (if v then first_of (get_or xs k None) place else get_or xs k None)
  by true h =
      let same : k ≡ at = sym (eqb-true at k h) in
      ap (λ i. get_or (set xs at (Some place)) i None) same ∙ get_or-set_same xs at (Some place) None l ∙ sym (ap (λ o. first_of o place) (ap (λ i. get_or xs i None) same ∙ e))
  by false h = let apart : k ≡ at → ⊥ = λ s. eqb-false at k h (sym s) in get_or-set_other xs at k (Some place) None apart
