-- Sets of conditions that have fewer of them bind a run less.
use Rattle.std.proofs.Common.{◌≡◌, ℕ, zero, suc, ◌<◌, Bool, true, false, not, ◌&&◌, ◌||◌, List, [], ◌∷◌, ◌++◌, length, slice_index_or, refl, sym, ap, ◌∙◌, arith}
use Rattle.std.specs.List.{Contains, AllByRecursion}
use Rattle.std.proofs.lemmas.Bool.{and_parts}
use Rattle.stk_numbers.specs.declared.conditions.Candidate.{Candidate}
use Rattle.stk_numbers.specs.declared.conditions.Condition.{Condition}
use Rattle.stk_meaning.specs.declared.entry.Entry.{Entry}
use Rattle.stk_meaning.specs.declared.entry.Entry.TheVariants.{Ub, Enter, Seen}
use Rattle.stk_meaning.specs.Hits.{same_condition, has, hits, breaks, free_of, HitsFree, is_hit_free}
use Rattle.stk_meaning.specs.Findings.{Subject, NoAnswer}

or_left : (a b : Bool) → a ≡ true → a || b ≡ true
or_left a b e = ap (λ x. x || b) e

or_right : (a b : Bool) → b ≡ true → a || b ≡ true
or_right true b e = refl
or_right false b e = e

both : (a b : Bool) → a ≡ true → b ≡ true → a && b ≡ true
both a b p q = ap (λ x. x && b) p ∙ q

either : (a b c : Bool) → (a ≡ true → c ≡ true) → (b ≡ true → c ≡ true) → a || b ≡ true → c ≡ true
either true b c p q e = p refl
either false b c p q e = q e

neither : (a b : Bool) → (a ≡ true → b ≡ true) → not b ≡ true → not a ≡ true
neither true true p q = q
neither true false p q = sym (ap not (p refl))
neither false b p q = refl

contained : (ks : List Condition) (i : ℕ) (k j : Condition) → i < length ks → slice_index_or ks i k ≡ k → same_condition k j ≡ true → has ks j ≡ true
contained [] i k j h e s = absurd (omega arith)
contained (m ∷ ms) zero k j h e s = or_left (same_condition m j) (has ms j) (ap (λ x. same_condition x j) e ∙ s)
contained (m ∷ ms) (suc i) k j h e s = or_right (same_condition m j) (has ms j) (contained ms i k j (omega arith) e s)

has_more : (few many : List Condition) (j : Condition) → AllByRecursion (Contains many) few → has few j ≡ true → has many j ≡ true
has_more [] many j all e = absurd (apart e)
  where
    apart : ◌≡◌ {A = Bool} false true → ⊥
    apart p = cc
has_more (k ∷ ks) many j all e =
    either (same_condition k j) (has ks j) (has many j) (contained many all.0.0 k j all.0.1 all.0.2) (has_more ks many j all.1) e

breaks_more : (few many : List Condition) (e : Entry) → AllByRecursion (Contains many) few → breaks few e ≡ true → breaks many e ≡ true
breaks_more few many (Ub j) all h = has_more few many j all h
breaks_more few many (Enter n) all h = h
breaks_more few many (Seen n t o) all h = h

free_fewer : (few many : List Condition) (es : List Entry) → AllByRecursion (Contains many) few → free_of many es ≡ true → free_of few es ≡ true
free_fewer few many [] all h = refl
free_fewer few many (e ∷ es) all h =
    let parts = and_parts (not (breaks many e)) (free_of many es) h in
    both (not (breaks few e)) (free_of few es) (neither (breaks few e) (breaks many e) (breaks_more few many e all) parts.0) (free_fewer few many es all parts.1)

-- where no map answers the query of a set, none answers that of a set that has its conditions
pub none_with_more : (q : Subject) (c : Candidate) (few many : List Condition) → AllByRecursion (Contains many) few → NoAnswer q c few → NoAnswer q c many
none_with_more q c few many all none start a =
    none start (record {
      valid = a.valid;
      hits = record { before = a.hits.before; entry = a.hits.entry; behind = a.hits.behind; is = a.hits.is; hit = a.hits.hit; free = free_fewer few many a.hits.before all a.hits.free };
    })

found_behind : (set : List Condition) (c : Candidate) (before : List Entry) (e : Entry) (behind : List Entry) → hits c e ≡ true → free_of set before ≡ true → is_hit_free set c (before ++ e ∷ behind) ≡ true
found_behind set c [] e behind h f = or_left (hits c e) (not (breaks set e) && is_hit_free set c behind) h
found_behind set c (x ∷ xs) e behind h f =
    let parts = and_parts (not (breaks set x)) (free_of set xs) f in
    or_right (hits c x) (not (breaks set x) && is_hit_free set c (xs ++ e ∷ behind)) (both (not (breaks set x)) (is_hit_free set c (xs ++ e ∷ behind)) parts.0 (found_behind set c xs e behind h parts.1))

-- what hits free of a set is found from left to right
pub hit_is_found : (set : List Condition) (c : Candidate) (trace : List Entry) → HitsFree set c trace → is_hit_free set c trace ≡ true
hit_is_found set c trace h = ap (is_hit_free set c) h.is ∙ found_behind set c h.before h.entry h.behind h.hit h.free
