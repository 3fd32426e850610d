-- Pairs that stand in a table once, and tables that get one more.
use Rattle.std.proofs.Common.{◌≡◌, ℕ, zero, suc, ◌+◌, ◌*◌, ◌^◌, ◌<◌, ◌≤◌, ◌⊎◌, inl, inr, Bool, true, false, ◌&&◌, List, [], ◌∷◌, ◌++◌, Some, None, length, slice_get, refl, sym, ap, ◌∙◌, subst, arith, if◌then◌else◌, ◌||◌}
use Rattle.std.specs.List.{list_any, IsDistinct, AllByRecursion}
use Rattle.std.specs.Option.{unwrap_or}
use Rattle.std.proofs.lemmas.Option.{none-some}
use Rattle.std.proofs.lemmas.Bool.{eq-eqb, lt-ltb, le-ltb, true≢false}
use Rattle.std.proofs.Math.ListN.{length-append}
use Rattle.indexmap.specs.IndexSet.{insert_key}
use Rattle.stk_gates.specs.declared.edge.Edge.{Edge}
use Rattle.stk_gates.specs.Edges.{folded, in_order}
use Rattle.stk_gates.specs.Tables.{Table, IsGateOf, IsOrdered, IsReduced, IsShared}
use Rattle.stk_gates.proofs.Edges.{same_pair}

some_one : {A : Type 0} {a b : A} → Some a ≡ Some b → a ≡ b
some_one {A} {a} {b} h = ap (λ o. unwrap_or o a) h

pub same_self : (p : Edge × Edge) → same_pair p p ≡ true
same_self p = λ i. eq-eqb p.0.0 p.0.0 refl i && eq-eqb p.1.0 p.1.0 refl i

later : (x : Edge × Edge) (xs : List (Edge × Edge)) (j : ℕ) (p : Edge × Edge) → AllByRecursion (λ y. same_pair x y ≡ false) xs → x ≡ p → slice_get xs j ≡ Some p → ⊥
later x [] j p all e h = absurd (none-some _ h)
later x (y ∷ ys) zero p all e h = true≢false (sym (ap (same_pair x) (some_one h ∙ sym e) ∙ same_self x) ∙ all.0)
later x (y ∷ ys) (suc j) p all e h = later x ys j p all.1 e h

-- a pair stands at one place
pub once : (ks : List (Edge × Edge)) → IsDistinct same_pair ks → (j k : ℕ) (p : Edge × Edge) → slice_get ks j ≡ Some p → slice_get ks k ≡ Some p → j ≡ k
unfolding IsDistinct
once [] d j k p g h = absurd (none-some _ g)
once (x ∷ xs) d zero zero p g h = refl
once (x ∷ xs) d zero (suc k) p g h = absurd (later x xs k p d.0 (some_one g) h)
once (x ∷ xs) d (suc j) zero p g h = absurd (later x xs j p d.0 (some_one h) g)
once (x ∷ xs) d (suc j) (suc k) p g h = ap suc (once xs d.1 j k p g h)

pub shared_of : (t : Table) → IsDistinct same_pair t.pairs → IsReduced t → IsShared t
shared_of t d low j k p q g h (inl e) = once t.pairs d j k q (g ∙ ap Some e) h
shared_of t d low j k p q g h (inr e) =
    let first = (low j p g).0 in
    let second = (low k q h).0 in
    let left : p.0.0 ≡ q.1.0 = ap (λ r. r.0.0) e in
    let right : p.1.0 ≡ q.0.0 = ap (λ r. r.1.0) e in
    absurd (omega arith)

-- the tests find a pair that is there
pub found : (ks : List (Edge × Edge)) (k : ℕ) (p : Edge × Edge) → slice_get ks k ≡ Some p → list_any (same_pair p) ks ≡ true
found [] k p h = absurd (none-some _ h)
found (x ∷ xs) zero p h = ap (λ b. b || list_any (same_pair p) xs) (ap (same_pair p) (some_one h) ∙ same_self p)
found (x ∷ xs) (suc k) p h = ap (λ b. same_pair p x || b) (found xs k p h) ∙ always (same_pair p x)
  where
    always : (b : Bool) → b || true ≡ true
    always true = refl
    always false = refl

-- what a table keeps of its pairs
abbrev pub Kept : ℕ → List (Edge × Edge) → Type 0
Kept n ks = (1 + n + length ks ≤ 2 ^ 29) × IsOrdered (record { inputs = n; pairs = ks }) × IsReduced (record { inputs = n; pairs = ks })

at_pushed : (ks : List (Edge × Edge)) (p : Edge × Edge) (k : ℕ) (x : Edge × Edge) → slice_get (ks ++ p ∷ []) k ≡ Some x → (slice_get ks k ≡ Some x) ⊎ ((k ≡ length ks) × (p ≡ x))
at_pushed [] p zero x h = inr (refl, some_one h)
at_pushed [] p (suc k) x h = absurd (none-some _ h)
at_pushed (y ∷ ys) p zero x h = inl h
at_pushed (y ∷ ys) p (suc k) x h = elim (at_pushed ys p k x h) [ inl g ↦ inl g | inr g ↦ inr (ap suc g.0, g.1) ]

pub kept_inserted : (n : ℕ) (ks ms : List (Edge × Edge)) (p : Edge × Edge) → ms ≡ insert_key same_pair ks p → Kept n ks → 1 + n + length ks + 1 ≤ 2 ^ 29
    → p.0.0 < 2 * (1 + n + length ks) → p.1.0 < 2 * (1 + n + length ks) → p.0.0 < p.1.0 → folded p.0 p.1 ≡ None → Kept n ms
kept_inserted n ks ms p is kept room la lb order whole = subst (Kept n) (sym is) (by (list_any (same_pair p) ks))
  where
    low : (k : ℕ) (x : Edge × Edge) → (slice_get ks k ≡ Some x) ⊎ ((k ≡ length ks) × (p ≡ x)) → (x.0.0 < 2 * (1 + n + k)) × (x.1.0 < 2 * (1 + n + k))
    low k x (inl g) = kept.1 k x g
    low k x (inr g) = subst (λ q. (q.0.0 < 2 * (1 + n + k)) × (q.1.0 < 2 * (1 + n + k))) g.1 (let e = g.0 in omega arith, let e = g.0 in omega arith)

    reduced : (k : ℕ) (x : Edge × Edge) → (slice_get ks k ≡ Some x) ⊎ ((k ≡ length ks) × (p ≡ x)) → (x.0.0 < x.1.0) × (folded x.0 x.1 ≡ None)
    reduced k x (inl g) = kept.2 k x g
    reduced k x (inr g) = subst (λ q. (q.0.0 < q.1.0) × (folded q.0 q.1 ≡ None)) g.1 (order, whole)

    by : (b : Bool) → Kept n (if b then ks else ks ++ p ∷ [])
    by true = kept
    by false = (omega (arith, length-append ks (p ∷ [])), λ k x h. low k x (at_pushed ks p k x h), λ k x h. reduced k x (at_pushed ks p k x h))

pub in_order-lower : (a b : Edge) → a.0 < b.0 → in_order a b ≡ (a, b)
in_order-lower a b l = ap (λ t. if t then (a, b) else (b, a)) (lt-ltb a.0 b.0 l)

pub in_order-upper : (a b : Edge) → b.0 < a.0 → in_order a b ≡ (b, a)
in_order-upper a b l = ap (λ t. if t then (a, b) else (b, a)) (le-ltb a.0 b.0 (omega arith))

-- an AND that needs a gate has two edges
pub apart : (a b : Edge) → folded a b ≡ None → a.0 ≡ b.0 → ⊥
apart a b whole e = by _ _ _ _ _ _ _ (eq-eqb a.0 b.0 e) whole
  where
    by : (t u v w : Bool) (x y z : Edge) → v ≡ true → (if t then Some x else (if u || v then Some y else (if w then Some z else None))) ≡ None → ⊥
    by true u v w x y z e h = none-some x (sym h)
    by false true v w x y z e h = none-some y (sym h)
    by false false true w x y z e h = none-some y (sym h)
    by false false false w x y z e h = true≢false (sym e)

-- a gate of two edges is a gate of the edges turned
pub turned : (t : Table) (a b e : Edge) → b.0 ≤ a.0 → folded a b ≡ None → IsGateOf t a b e → IsGateOf t b a e
turned t a b e l whole g =
    let ne = apart a b whole in
    let lower : b.0 < a.0 = omega arith in
    record { place = g.place; number = g.number; operands = g.operands ∙ ap Some (in_order-upper a b lower ∙ sym (in_order-lower b a lower)) }

-- nothing comes in where the pair is there
pub inserted_found : (ks ms : List (Edge × Edge)) (p : Edge × Edge) → ms ≡ insert_key same_pair ks p → list_any (same_pair p) ks ≡ true → ms ≡ ks
inserted_found ks ms p is h = is ∙ ap (λ b. if b then ks else ks ++ p ∷ []) h
