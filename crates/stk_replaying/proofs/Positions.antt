-- The positions of the candidates that are hit, one candidate after the other.
use Rattle.std.proofs.Common.{◌≡◌, ℕ, ◌+◌, ◌<◌, Bool, true, false, List, [], ◌∷◌, ◌++◌, length, drop, get_or, add-one, drop-cons, if◌then◌else◌, sym, ap, ◌∙◌, append_assoc}
use Rattle.std.specs.List.{list_any}
use Rattle.stk_numbers.specs.declared.conditions.Candidate.{Candidate}
use Rattle.stk_meaning.specs.declared.entry.Entry.{Entry}
use Rattle.stk_meaning.specs.Hits.{hits}
use Rattle.stk_replaying.specs.Replaying.{hit_places_from}

-- what is left of a list begins with the element at this place
next_of : {A : Type 0} (xs : List A) (i : ℕ) (d : A) → i < length xs → drop i xs ≡ get_or xs i d ∷ drop (i + 1) xs
next_of xs i d h = rw add-one (drop-cons xs i d h)

module _ (t : List Entry) (cs : List Candidate) (i : ℕ) (d : Candidate) (places all : List ℕ) (below : i < length cs) where
  abbrev rest : List ℕ
  rest = hit_places_from (i + 1) (drop (i + 1) cs) t

  first_by : (b : Bool) → list_any (hits (get_or cs i d)) t ≡ b → hit_places_from i (drop i cs) t ≡ (if b then i ∷ rest else rest)
  first_by b h = ap (λ (ds : List Candidate). hit_places_from i ds t) (next_of cs i d below) ∙ ap (λ (u : Bool). if u then i ∷ rest else rest) h

  -- the next one is hit
  pub hit_next : list_any (hits (get_or cs i d)) t ≡ true → places ++ hit_places_from i (drop i cs) t ≡ all → (places ++ i ∷ []) ++ rest ≡ all
  hit_next h so_far = append_assoc places (i ∷ []) rest ∙ ap (λ (z : List ℕ). places ++ z) (sym (first_by true h)) ∙ so_far

  -- it isn't
  pub miss_next : list_any (hits (get_or cs i d)) t ≡ false → places ++ hit_places_from i (drop i cs) t ≡ all → places ++ rest ≡ all
  miss_next h so_far = ap (λ (z : List ℕ). places ++ z) (sym (first_by false h)) ∙ so_far
