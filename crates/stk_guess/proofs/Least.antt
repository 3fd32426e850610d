-- Each row of a table answers at most one query of a deletion: that of its least condition.
use Rattle.std.proofs.Common.{◌≡◌, Bool, true, false, List, [], ◌∷◌, ◌++◌, ℤ, refl, sym, ap, ◌∙◌, subst}
use Rattle.std.specs.Prelude.{not, ◌&&◌, ◌||◌}
use Rattle.std.proofs.lemmas.Bool.{true≢false}
use Rattle.std.proofs.lemmas.List.Folds.{list_any-append}
use Rattle.stk_numbers.specs.declared.conditions.Candidate.{Candidate}
use Rattle.stk_numbers.specs.declared.conditions.Condition.{Condition}
use Rattle.stk_meaning.specs.declared.entry.Entry.{Entry}
use Rattle.stk_meaning.specs.declared.entry.Entry.TheVariants.{Ub, Enter, Seen}
use Rattle.stk_meaning.specs.Hits.{same_condition, has, breaks, free_of}
use Rattle.stk_meaning.specs.Findings.{Subject, Answers, NoAnswer}
use Rattle.stk_guess.proofs.Guessing.{and_split, and_join}

-- whether a set with k in its midst has a condition
has_amid : (below : List Condition) (k : Condition) (behind : List Condition) (j : Condition) → has (below ++ k ∷ behind) j ≡ has below j || (same_condition k j || has behind j)
has_amid below k behind j = list_any-append (λ i. same_condition i j) below (k ∷ behind)

has_both : (below behind : List Condition) (j : Condition) → has (below ++ behind) j ≡ has below j || has behind j
has_both below behind j = list_any-append (λ i. same_condition i j) below behind

none_amid : (a b c : Bool) → not (a || c) ≡ true → not (b || false) ≡ true → not (a || (b || c)) ≡ true
none_amid true b c p q = p
none_amid false true c p q = absurd (true≢false (sym q))
none_amid false false c p q = p

not_amid : (below : List Condition) (k : Condition) (behind : List Condition) (e : Entry) → not (breaks (below ++ behind) e) ≡ true → not (breaks (k ∷ []) e) ≡ true → not (breaks (below ++ k ∷ behind) e) ≡ true
not_amid below k behind (Ub j) p q = ap not (has_amid below k behind j) ∙ none_amid (has below j) (same_condition k j) (has behind j) (sym (ap not (has_both below behind j)) ∙ p) q
not_amid below k behind (Enter n) p q = refl
not_amid below k behind (Seen n truth other) p q = refl

free_amid : (below : List Condition) (k : Condition) (behind : List Condition) (t : List Entry) → free_of (below ++ behind) t ≡ true → free_of (k ∷ []) t ≡ true → free_of (below ++ k ∷ behind) t ≡ true
free_amid below k behind [] p q = refl
free_amid below k behind (e ∷ t) p q =
    let x = and_split (not (breaks (below ++ behind) e)) (free_of (below ++ behind) t) p in
    let y = and_split (not (breaks (k ∷ []) e)) (free_of (k ∷ []) t) q in
    and_join (not (breaks (below ++ k ∷ behind) e)) (free_of (below ++ k ∷ behind) t) (not_amid below k behind e x.0 y.0) (free_amid below k behind t x.1 y.1)

-- A start that answers the query for the conditions below k and the members above it, where none answers it with k,
-- violates k before its hit. It violates nothing below, so k is the least condition that it violates there.
pub is_violated : (q : Subject) (c : Candidate) (below : List Condition) (k : Condition) (behind : List Condition) (start : List ℤ) → NoAnswer q c (below ++ k ∷ behind) → (a : Answers q c (below ++ behind) start) → free_of (k ∷ []) a.hits.before ≡ true → ⊥
is_violated q c below k behind start none a free =
    none start (record {
      valid = a.valid;
      hits = record { before = a.hits.before; entry = a.hits.entry; behind = a.hits.behind; is = a.hits.is; hit = a.hits.hit; free = free_amid below k behind a.hits.before a.hits.free free };
    })
