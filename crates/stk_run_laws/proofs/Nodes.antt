-- Which nodes stand in visits, and that those of two parts are different where numbers ascend.
use Rattle.std.proofs.Common.{◌≡◌, ℕ, ◌<◌, ◌⊎◌, List, [], ◌∷◌, ◌++◌, sym, subst, inl, inr, arith}
use Rattle.stk_meaning.specs.Visits.{Visits, no_visit, one_visit, both_visits, scope, unevaluated}
use Rattle.stk_run_laws.specs.Visits.{visit_node, IsBelow, IsIn, Ascends, nodes_of}

-- a node stands among what is visited and evaluated
abbrev pub Stands : ℕ → Visits → Type 0
Stands k no_visit = ⊥
Stands k (one_visit x) = k ≡ visit_node x
Stands k (both_visits a b) = Stands k a ⊎ Stands k b
Stands k (scope ks a) = Stands k a
Stands k (unevaluated a) = ⊥

-- two parts have no node in common
pub record Apart (a b : Visits) : Type 0 where
  pub by : (k : ℕ) → Stands k a → Stands k b → ⊥

-- no node stands twice
abbrev pub Distinct : Visits → Type 0
Distinct no_visit = Unit {0}
Distinct (one_visit x) = Unit {0}
Distinct (both_visits a b) = Distinct a × Distinct b × Apart a b
Distinct (scope ks a) = Distinct a
Distinct (unevaluated a) = Unit {0}

pub in_left : {A : Type 0} (x : A) (a b : List A) → IsIn x a → IsIn x (a ++ b)
in_left x [] b h = absurd h
in_left x (y ∷ a) b (inl h) = inl h
in_left x (y ∷ a) b (inr h) = inr (in_left x a b h)

pub in_right : {A : Type 0} (x : A) (a b : List A) → IsIn x b → IsIn x (a ++ b)
in_right x [] b h = h
in_right x (y ∷ a) b h = inr (in_right x a b h)

pub in_either : {A : Type 0} (x : A) (a b : List A) → IsIn x (a ++ b) → IsIn x a ⊎ IsIn x b
in_either x [] b h = inr h
in_either x (y ∷ a) b (inl h) = inl (inl h)
in_either x (y ∷ a) b (inr h) = elim (in_either x a b h) [ inl i ↦ inl (inr i) | inr i ↦ inr i ]

pub stands_in : (k : ℕ) (v : Visits) → Stands k v → IsIn k (nodes_of v)
stands_in k no_visit h = absurd h
stands_in k (one_visit x) h = inl h
stands_in k (both_visits a b) (inl h) = in_left k (nodes_of a) (nodes_of b) (stands_in k a h)
stands_in k (both_visits a b) (inr h) = in_right k (nodes_of a) (nodes_of b) (stands_in k b h)
stands_in k (scope ks a) h = stands_in k a h
stands_in k (unevaluated a) h = absurd h

below_left : (k : ℕ) (a b : List ℕ) → IsBelow k (a ++ b) → IsBelow k a
below_left k [] b h = tt
below_left k (x ∷ a) b h = (h.0, below_left k a b h.1)

below_of : (k j : ℕ) (a : List ℕ) → IsBelow k a → IsIn j a → k < j
below_of k j [] h i = absurd i
below_of k j (x ∷ a) h (inl i) = subst (λ z. k < z) (sym i) h.0
below_of k j (x ∷ a) h (inr i) = below_of k j a h.1 i

pub ascends_left : (a b : List ℕ) → Ascends (a ++ b) → Ascends a
ascends_left [] b h = tt
ascends_left (x ∷ a) b h = (below_left x a b h.0, ascends_left a b h.1)

pub ascends_right : (a b : List ℕ) → Ascends (a ++ b) → Ascends b
ascends_right [] b h = h
ascends_right (x ∷ a) b h = ascends_right a b h.1

pub ascends_apart : (a b : List ℕ) (i j : ℕ) → Ascends (a ++ b) → IsIn i a → IsIn j b → i < j
ascends_apart [] b i j h p q = absurd p
ascends_apart (x ∷ a) b i j h (inl p) q = below_of i j (a ++ b) (subst (λ z. IsBelow z (a ++ b)) (sym p) h.0) (in_right j a b q)
ascends_apart (x ∷ a) b i j h (inr p) q = ascends_apart a b i j h.1 p q

-- where the nodes ascend, none stands twice
pub distinct_of : (v : Visits) → Ascends (nodes_of v) → Distinct v
distinct_of no_visit h = tt
distinct_of (one_visit x) h = tt
distinct_of (both_visits a b) h = (
  distinct_of a (ascends_left (nodes_of a) (nodes_of b) h),
  distinct_of b (ascends_right (nodes_of a) (nodes_of b) h),
  record { by = λ k p q. let less = ascends_apart (nodes_of a) (nodes_of b) k k h (stands_in k a p) (stands_in k b q) in omega arith },
)
distinct_of (scope ks a) h = distinct_of a h
distinct_of (unevaluated a) h = tt
