-- Where the maps of a subject are those of numbers that pass a test, each query has a first answer or none: all numbers
-- are tried.
use Rattle.std.proofs.Common.{◌≡◌, ℕ, ◌^◌, ◌<◌, ◌⊎◌, inl, inr, Bool, true, false, List, ℤ, refl, sym, ◌∙◌, subst}
use Rattle.std.proofs.lemmas.Bool.{false≢true}
use Rattle.stk_ctype.specs.declared.kind.IntKind.{IntKind}
use Rattle.stk_numbers.specs.declared.conditions.Candidate.{Candidate}
use Rattle.stk_numbers.specs.declared.conditions.Condition.{Condition}
use Rattle.stk_meaning.specs.declared.entry.Entry.{Entry}
use Rattle.stk_meaning.specs.Hits.{HitsFree, is_hit_free}
use Rattle.stk_meaning.specs.Findings.{Subject, Answers}
use Rattle.stk_meaning.proofs.HitLemmas.{found, finds}
use Rattle.stk_hits.specs.InputMaps.{bits_in, Covers, Precedes, map_at}
use Rattle.stk_hits.proofs.Numbering.{by_number}
use Rattle.stk_finding_laws.proofs.Searching.{FirstBelow, first_below, none_below, search_below}
use Rattle.stk_finding_laws.proofs.Deciding.{FirstOrNone, an_answer, no_answer}

-- the maps of a subject are those for keys of some kinds that pass a test, in their order
pub record HasMapsOf (q : Subject) (ks : List IntKind) (test : List ℤ → Bool) : Type 0 where
  pub maps : (xs : List ℤ) → Covers ks xs → test xs ≡ true → q.IsMap xs
  pub back : (xs : List ℤ) → q.IsMap xs → Covers ks xs
  pub pass : (xs : List ℤ) → q.IsMap xs → test xs ≡ true
  pub before : (xs ys : List ℤ) → q.Before xs ys → Precedes ks xs ys

-- a trace hits free or doesn't
hits_by : (set : List Condition) (c : Candidate) (trace : List Entry) (b : Bool) → is_hit_free set c trace ≡ b → HitsFree set c trace ⊎ (HitsFree set c trace → ⊥)
hits_by set c trace true e = inl (found set c trace e)
hits_by set c trace false e = inr (λ h. false≢true (sym e ∙ finds set c trace h))

module _ (q : Subject) (ks : List IntKind) (test : List ℤ → Bool) (h : HasMapsOf q ks test) (c : Candidate) (set : List Condition) where
  -- the map of a number passes the test, and its run hits free
  abbrev Passes : ℕ → Type 0
  Passes n = (test (map_at ks n) ≡ true) × HitsFree set c (q.run (map_at ks n))

  both_or_not : (n : ℕ) (b : Bool) → test (map_at ks n) ≡ b → HitsFree set c (q.run (map_at ks n)) ⊎ (HitsFree set c (q.run (map_at ks n)) → ⊥) → Passes n ⊎ (Passes n → ⊥)
  both_or_not n true e (inl hit) = inl (e, hit)
  both_or_not n true e (inr never) = inr (λ p. never p.1)
  both_or_not n false e hit = inr (λ p. false≢true (sym e ∙ p.0))

  passes_or_not : (n : ℕ) → Passes n ⊎ (Passes n → ⊥)
  passes_or_not n = both_or_not n (test (map_at ks n)) refl (hits_by set c (q.run (map_at ks n)) (is_hit_free set c (q.run (map_at ks n))) refl)

  -- an answer's number passes
  passes_at : (xs : List ℤ) (n : ℕ) → map_at ks n ≡ xs → Answers q c set xs → Passes n
  passes_at xs n is a = subst (λ ys. (test ys ≡ true) × HitsFree set c (q.run ys)) (sym is) (h.pass xs a.valid, a.hits)

  asked_by : FirstBelow (2 ^ bits_in ks) Passes → FirstOrNone q c set
  asked_by (first_below m less p earlier) = an_answer (map_at ks m) (record {
    answers = record { valid = h.maps (map_at ks m) ((by_number ks).covers m less) p.0; hits = p.1 };
    first = λ other before a.
        let n = (by_number ks).numbered other (h.back other a.valid) in
        let lower : n.number < m = (by_number ks).ordered n.number m n.below less (subst (λ xs. Precedes ks xs (map_at ks m)) (sym n.is) (h.before other (map_at ks m) before)) in
        earlier n.number lower (passes_at other n.number n.is a);
  })
  asked_by (none_below none) = no_answer (λ start a.
      let n = (by_number ks).numbered start (h.back start a.valid) in
      none n.number n.below (passes_at start n.number n.is a))

  pub asked : FirstOrNone q c set
  asked = asked_by (search_below (2 ^ bits_in ks) Passes passes_or_not)
