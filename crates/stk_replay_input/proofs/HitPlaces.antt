-- The candidates at the positions of those that are hit.
use Rattle.std.proofs.Common.{◌≡◌, ℕ, ◌+◌, ◌<◌, Bool, true, false, List, [], ◌∷◌, ◌++◌, length, if◌then◌else◌, Some, slice_get, refl, sym, ap, ◌∙◌, subst, arith, append_assoc}
use Rattle.std.specs.Prelude.{filter}
use Rattle.std.specs.List.{list_any}
use Rattle.std.proofs.lemmas.List.{length-append}
use Rattle.std.proofs.lemmas.Option.{slice_get-get_or}
use Rattle.std.proofs.Math.Seq.{get_or-append_seam}
use Rattle.stk_numbers.specs.declared.conditions.Candidate.{Candidate}
use Rattle.stk_meaning.specs.declared.entry.Entry.{Entry}
use Rattle.stk_meaning.specs.Hits.{hits}
use Rattle.stk_replaying.specs.Replaying.{hit_places_from, hit_places}
use Rattle.stk_replay_input.specs.Lines.{with_some, candidates_at}

-- the candidate behind others
behind : (front : List Candidate) (c : Candidate) (cs : List Candidate) → slice_get (front ++ c ∷ cs) (length front) ≡ Some c
behind front c cs =
    let within : length front < length (front ++ c ∷ cs) = omega (arith, length-append front (c ∷ cs)) in
    slice_get-get_or (front ++ c ∷ cs) (length front) c within ∙ ap (λ (x : Candidate). Some x) (get_or-append_seam front c cs c)

module _ (t : List Entry) where
  abbrev is_hit : Candidate → Bool
  is_hit c = list_any (hits c) t

  -- the next candidate, by whether it is hit
  one : (front : List Candidate) (c : Candidate) (cs : List Candidate) (places : List ℕ) (b : Bool) → candidates_at (front ++ c ∷ cs) places ≡ filter is_hit cs
      → candidates_at (front ++ c ∷ cs) (if b then length front ∷ places else places) ≡ (if b then c ∷ filter is_hit cs else filter is_hit cs)
  one front c cs places true rest =
      ap (λ o. with_some o (candidates_at (front ++ c ∷ cs) places)) (behind front c cs) ∙ ap (λ (xs : List Candidate). c ∷ xs) rest
  one front c cs places false rest = rest

  hit_from : (front cs : List Candidate) → candidates_at (front ++ cs) (hit_places_from (length front) cs t) ≡ filter is_hit cs
  hit_from front [] = refl
  hit_from front (c ∷ cs) =
      let longer : length (front ++ c ∷ []) ≡ length front + 1 = length-append front (c ∷ []) in
      let more = subst (λ n. candidates_at ((front ++ c ∷ []) ++ cs) (hit_places_from n cs t) ≡ filter is_hit cs) longer (hit_from (front ++ c ∷ []) cs) in
      let rest = subst (λ (xs : List Candidate). candidates_at xs (hit_places_from (length front + 1) cs t) ≡ filter is_hit cs) (append_assoc front (c ∷ []) cs) more in
      one front c cs (hit_places_from (length front + 1) cs t) (list_any (hits c) t) rest

-- the candidates at the positions of those that are hit are those that are hit
pub hit_candidates : (cs : List Candidate) (t : List Entry) → candidates_at cs (hit_places cs t) ≡ filter (λ c. list_any (hits c) t) cs
hit_candidates cs t = hit_from t [] cs
