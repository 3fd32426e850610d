-- Hits that are noted where they aren't there yet.
use Rattle.std.proofs.Common.{◌≡◌, ℕ, zero, suc, ◌≤◌, ◌<◌, ◌⊎◌, inl, inr, Bool, true, false, cond, ◌&&◌, nat_eq, List, [], ◌∷◌, ◌++◌, length, slice_get, Option, Some, None, is_some, refl, sym, ap, ◌∙◌, subst, arith, if◌then◌else◌, eqb-true}
use Rattle.std.proofs.lemmas.Option.{none-some}
use Rattle.std.proofs.lemmas.Bool.{true≢false}
use Rattle.std.specs.Map.{lookup}
use Rattle.indexmap.specs.IndexMap.{insert_entry}
use Rattle.stk_hits.specs.declared.hit_table.Hit.{Hit}
use Rattle.stk_hits.specs.Recording.{same_hit, noted}
use Rattle.stk_hits.proofs.Numbers.{some_one}

and_left : (a b : Bool) → a && b ≡ true → a ≡ true
and_left true b e = refl
and_left false b e = e

and_right : (a b : Bool) → a && b ≡ true → b ≡ true
and_right true b e = e
and_right false b e = absurd cc

pub same_is : (a b : Hit) → same_hit a b ≡ true → b ≡ a
same_is a b h =
    let node : a.node ≡ b.node = eqb-true _ _ (and_left _ _ h) in
    let rest = and_right (nat_eq a.node b.node) _ h in
    let kind : a.kind ≡ b.kind = eqb-true _ _ (and_left _ _ rest) in
    let set : a.set ≡ b.set = eqb-true _ _ (and_right (nat_eq a.kind b.kind) _ rest) in
    sym (λ i. record { node = node i; kind = kind i; set = set i })

-- what an insertion of a key that isn't there makes, and none of one that is there
pub inserted : (es : List (Hit × ℕ)) (h : Hit) (n : ℕ) → is_some (lookup (same_hit h) es) ≡ false → insert_entry same_hit es h n ≡ noted es h n
inserted [] h n e = refl
inserted (x ∷ es) h n e = by (same_hit h x.0) (inserted es h n) e
  where
    by : (b : Bool) → (is_some (lookup (same_hit h) es) ≡ false → insert_entry same_hit es h n ≡ noted es h n) → is_some (cond b (Some x.1) (lookup (same_hit h) es)) ≡ false
        → (if b then (x.0, n) ∷ es else x ∷ insert_entry same_hit es h n) ≡ (if b then x ∷ es else x ∷ noted es h n)
    by true rest e = absurd (true≢false e)
    by false rest e = ap (λ t. x ∷ t) (rest e)

pub there : (es : List (Hit × ℕ)) (h : Hit) (n : ℕ) → is_some (lookup (same_hit h) es) ≡ true → noted es h n ≡ es
there [] h n e = absurd (true≢false (sym e))
there (x ∷ es) h n e = by (same_hit h x.0) (there es h n) e
  where
    by : (b : Bool) → (is_some (lookup (same_hit h) es) ≡ true → noted es h n ≡ es) → is_some (cond b (Some x.1) (lookup (same_hit h) es)) ≡ true → (if b then x ∷ es else x ∷ noted es h n) ≡ x ∷ es
    by true rest e = refl
    by false rest e = ap (λ t. x ∷ t) (rest e)

-- what was there stays at its place
pub keeps : (es : List (Hit × ℕ)) (h : Hit) (n j : ℕ) (x : Hit × ℕ) → slice_get es j ≡ Some x → slice_get (noted es h n) j ≡ Some x
keeps [] h n j x e = absurd (none-some _ e)
keeps (y ∷ es) h n j x e = by (same_hit h y.0) j e (λ k. keeps es h n k x)
  where
    by : (b : Bool) (j : ℕ) → slice_get (y ∷ es) j ≡ Some x → ((k : ℕ) → slice_get es k ≡ Some x → slice_get (noted es h n) k ≡ Some x) → slice_get (if b then y ∷ es else y ∷ noted es h n) j ≡ Some x
    by true j e rest = e
    by false zero e rest = e
    by false (suc j) e rest = rest j e

-- what is there was there at its place, or is the hit at the end
pub comes : (es : List (Hit × ℕ)) (h : Hit) (n j : ℕ) (x : Hit × ℕ) → slice_get (noted es h n) j ≡ Some x → (slice_get es j ≡ Some x) ⊎ ((j ≡ length es) × (x ≡ (h, n)))
comes [] h n zero x e = inr (refl, sym (some_one e))
comes [] h n (suc j) x e = absurd (none-some _ e)
comes (y ∷ es) h n j x e = by (same_hit h y.0) j e (λ k. comes es h n k x)
  where
    by : (b : Bool) (j : ℕ) → slice_get (if b then y ∷ es else y ∷ noted es h n) j ≡ Some x → ((k : ℕ) → slice_get (noted es h n) k ≡ Some x → (slice_get es k ≡ Some x) ⊎ ((k ≡ length es) × (x ≡ (h, n)))) → (slice_get (y ∷ es) j ≡ Some x) ⊎ ((j ≡ suc (length es)) × (x ≡ (h, n)))
    by true j e rest = inl e
    by false zero e rest = inl e
    by false (suc j) e rest = elim (rest j e) [ inl g ↦ inl g | inr g ↦ inr (ap suc g.0, g.1) ]

-- a hit stands in a list with the number of a run
pub record IsThere (es : List (Hit × ℕ)) (h : Hit) : Type 0 where
  pub place : ℕ
  pub first : ℕ
  pub row : slice_get es place ≡ Some (h, first)

-- the hit is there now
pub has : (es : List (Hit × ℕ)) (h : Hit) (n : ℕ) → IsThere (noted es h n) h
has [] h n = record { place = 0; first = n; row = refl }
has (y ∷ es) h n = by (same_hit h y.0) refl (has es h n)
  where
    by : (b : Bool) → same_hit h y.0 ≡ b → IsThere (noted es h n) h → IsThere (if b then y ∷ es else y ∷ noted es h n) h
    by true e rest = record { place = 0; first = y.1; row = ap (λ g. Some (g, y.1)) (same_is h y.0 e) }
    by false e rest = record { place = suc rest.place; first = rest.first; row = rest.row }
