-- What a trace marks, entry by entry.
use Rattle.std.proofs.Common.{ℕ, zero, suc, ◌≡◌, ◌+◌, ◌<◌, Bool, ◌||◌, List, [], ◌∷◌, ◌++◌, length, drop, get_or, refl, sym, ap, ◌∙◌}
use Rattle.std.specs.List.{list_any}
use Rattle.std.proofs.Math.Bool.{or_assoc}
use Rattle.std.proofs.lemmas.List.{drop_more}
use Rattle.stk_numbers.specs.declared.conditions.Candidate.{Candidate}
use Rattle.stk_meaning.specs.declared.entry.Entry.{Entry}
use Rattle.stk_meaning.specs.Hits.{hits}
use Rattle.stk_replaying.specs.declared.marks.HitKinds.{HitKinds}
use Rattle.stk_replaying.specs.Marks.{no_kinds}

-- a node at which nothing is hit, behind the others
pub none_behind : (xs : List HitKinds) (k : ℕ) → get_or (xs ++ no_kinds ∷ []) k no_kinds ≡ get_or xs k no_kinds
none_behind [] zero = refl
none_behind [] (suc k) = refl
none_behind (x ∷ xs) zero = refl
none_behind (x ∷ xs) (suc k) = none_behind xs k

-- what is marked and what is left are what the trace hits, also behind one entry more
pub marked_more : (t : List Entry) (i : ℕ) (d : Entry) (before now : Candidate → Bool) → i < length t
    → ((c : Candidate) → list_any (hits c) t ≡ (before c || list_any (hits c) (drop i t))) → ((c : Candidate) → now c ≡ (before c || hits c (get_or t i d)))
    → (c : Candidate) → list_any (hits c) t ≡ (now c || list_any (hits c) (drop (i + 1) t))
marked_more t i d before now within so_far more c =
    let rest = list_any (hits c) (drop (i + 1) t) in
    so_far c ∙ ap (λ (es : List Entry). before c || list_any (hits c) es) (drop_more t i d within)
    ∙ sym (or_assoc (before c) (hits c (get_or t i d)) rest) ∙ ap (λ (b : Bool). b || rest) (sym (more c))
