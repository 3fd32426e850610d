-- The test for a hit that is free of a set finds exactly such hits.
use Rattle.std.proofs.Common.{◌≡◌, Bool, true, false, List, [], ◌∷◌, ◌++◌, refl, ap}
use Rattle.std.specs.Prelude.{not, ◌&&◌, ◌||◌}
use Rattle.stk_numbers.specs.declared.conditions.Candidate.{Candidate}
use Rattle.stk_numbers.specs.declared.conditions.Condition.{Condition}
use Rattle.stk_meaning.specs.declared.entry.Entry.{Entry}
use Rattle.stk_meaning.specs.Hits.{hits, breaks, free_of, HitsFree, is_hit_free}

and_split : (a b : Bool) → a && b ≡ true → (a ≡ true) × (b ≡ true)
and_split true true e = (refl, refl)
and_split true false e = absurd cc
and_split false b e = absurd cc

and_join : (a b : Bool) → a ≡ true → b ≡ true → a && b ≡ true
and_join true true p q = refl
and_join true false p q = q
and_join false b p q = p

or_right : (a b : Bool) → b ≡ true → a || b ≡ true
or_right true b p = refl
or_right false b p = p

or_left : (a b : Bool) → a ≡ true → a || b ≡ true
or_left true b p = refl
or_left false b p = absurd cc

-- a hit in what is behind an entry that breaks nothing is a hit of the whole
hit_behind : (set : List Condition) (c : Candidate) (e : Entry) (t : List Entry) → not (breaks set e) ≡ true → HitsFree set c t → HitsFree set c (e ∷ t)
hit_behind set c e t clear h = record {
  before = e ∷ h.before;
  entry = h.entry;
  behind = h.behind;
  is = ap (λ u. e ∷ u) h.is;
  hit = h.hit;
  free = and_join _ _ clear h.free;
}

by_cases : (set : List Condition) (c : Candidate) (e : Entry) (t : List Entry) (h b r : Bool) → hits c e ≡ h → not (breaks set e) ≡ b → is_hit_free set c t ≡ r → (r ≡ true → HitsFree set c t) → h || (b && r) ≡ true → HitsFree set c (e ∷ t)
by_cases set c e t true b r is_h is_b is_r more ok = record {
  before = [];
  entry = e;
  behind = t;
  is = refl;
  hit = is_h;
  free = refl;
}
by_cases set c e t false true r is_h is_b is_r more ok = hit_behind set c e t is_b (more ok)
by_cases set c e t false false r is_h is_b is_r more ok = absurd cc

pub found : (set : List Condition) (c : Candidate) (trace : List Entry) → is_hit_free set c trace ≡ true → HitsFree set c trace
found set c [] ok = absurd cc
found set c (e ∷ t) ok = by_cases set c e t (hits c e) (not (breaks set e)) (is_hit_free set c t) refl refl refl (found set c t) ok

split_finds : (set : List Condition) (c : Candidate) (before : List Entry) (e : Entry) (behind : List Entry) → hits c e ≡ true → free_of set before ≡ true → is_hit_free set c (before ++ e ∷ behind) ≡ true
split_finds set c [] e behind hit free = or_left (hits c e) _ hit
split_finds set c (x ∷ before) e behind hit free =
    let both = and_split (not (breaks set x)) (free_of set before) free in
    or_right (hits c x) _ (and_join _ _ both.0 (split_finds set c before e behind hit both.1))

pub finds : (set : List Condition) (c : Candidate) (trace : List Entry) → HitsFree set c trace → is_hit_free set c trace ≡ true
finds set c trace h = rw h.is (split_finds set c h.before h.entry h.behind h.hit h.free)
