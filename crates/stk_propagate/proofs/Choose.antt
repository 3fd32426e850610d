-- The literals that became false last.
use Rattle.std.proofs.Common.{◌≡◌, ◌≢◌, ℕ, ◌+◌, ◌<◌, ◌≤◌, List, [], ◌∷◌, ◌++◌, length, get_or, take, sym, ◌∙◌, ap, subst, inl, inr, arith, Option, Some, None}
use Rattle.std.specs.List.{Contains}
use Rattle.std.specs.Option.{MatchOption}
use Rattle.std.proofs.lemmas.List.{length-take, get_or-take, get_or_default, take_more}
use Rattle.std.proofs.lemmas.List.Elements.{Contains-push_cases, Contains-append_left, Contains-append_cases}
use Rattle.stk_clauses.specs.declared.literal.Lit.{Lit}
use Rattle.stk_clauses.specs.Literals.{negated, AreDistinct}
use Rattle.stk_clauses.specs.Propagation.{HasNoPair}
use Rattle.stk_clauses.proofs.Values.{lit_cases}
use Rattle.stk_clauses.proofs.Members.{contains_head, contains_tail}
use Rattle.stk_propagate.specs.Assigned.{AreFresh}
use Rattle.stk_propagate.proofs.Dropping.{one_place}
use Rattle.stk_propagate.specs.Fitting.{IsSettled, IsWatched, IsCalm}
use Rattle.stk_propagate.specs.Choosing.{IsFalseFrom, IsNotLater}
use Rattle.stk_propagate.proofs.Lists.{in_take}

-- by the place of the negation
pub false_at : (t : List Lit) (l : Lit) (p : ℕ) → AreFresh t → p < length t → get_or t p (negated l) ≡ negated l → IsFalseFrom t l p
false_at t l p s lt e k le = (
  (λ h.
      let j : ℕ = h.0 in
      let jk : j < k = omega (arith, h.1, length-take k t) in
      let jt : j < length t = omega (arith, h.1, length-take k t) in
      let same : j ≡ p = one_place t (negated l) j p s jt lt (sym (get_or-take k t j (negated l) jk) ∙ h.2) e in
      omega (arith, same, jk)),
  (λ h. (p, omega (arith, h, lt, length-take k t), get_or-take k t p (negated l) h ∙ e)),
)

-- the first two literals of a clause are different ones
pub two_watched : (c : List Lit) (d e : Lit) → AreDistinct c → 2 ≤ length c → IsWatched c (Some (get_or c 0 d, get_or c 1 e))
two_watched [] d e s long = absurd (omega (arith, long))
two_watched (x ∷ []) d e s long = absurd (omega (arith, long))
two_watched (x ∷ y ∷ c) d e s long = (contains_head x (y ∷ c), contains_tail x (y ∷ c) y (contains_head y c), λ q. s.0 (subst (λ z. Contains (y ∷ c) z) (sym q) (contains_head y c)))

-- what became false no later
pub not_later : (t : List Lit) (m l : Lit) (p q : ℕ) → IsFalseFrom t m p → IsFalseFrom t l q → p ≤ q → IsNotLater t m l
not_later t m l p q fm fl le k h c = let lt = (fl k h).0 c in (fm k h).1 (omega (arith, lt, le))

pub later_trans : (t : List Lit) (a b c : Lit) → IsNotLater t a b → IsNotLater t b c → IsNotLater t a c
later_trans t a b c f g k h x = f k h (g k h x)

-- what the loop has found of the literals so far
abbrev pub AreNotLater : List Lit → List Lit → Option Lit → Lit → Type 0
AreNotLater t c but best = (m : Lit) → Contains c m → but ≢ Some m → IsNotLater t m best

pub later_more : (t c : List Lit) (but : Option Lit) (best : Lit) (i : ℕ) (d : Lit) → i < length c → AreNotLater t (take i c) but best → (but ≢ Some (get_or c i d) → IsNotLater t (get_or c i d) best) → AreNotLater t (take (i + 1) c) but best
later_more t c but best i d lt old new m h ne =
    elim (Contains-push_cases (take i c) (get_or c i d) m (subst (λ ys. Contains ys m) (take_more c i d lt) h)) [
      | inl k ↦ old m k ne
      | inr e ↦ subst (λ y. IsNotLater t y best) e (new (λ f. ne (f ∙ ap (λ (y : Lit). Some y) e)))
    ]

pub later_other : (t c : List Lit) (but : Option Lit) (best next : Lit) → AreNotLater t c but best → IsNotLater t best next → AreNotLater t c but next
later_other t c but best next old le m h ne = later_trans t m best next (old m h ne) le

-- the literal of the first i ones, other than but, that became false last, and when
pub record Best (t c : List Lit) (i : ℕ) (but : Option Lit) (best : Lit) (when : ℕ) : Type 0 where
  pub among : Contains c best
  pub other : but ≢ Some best
  pub since : IsFalseFrom t best when
  pub later : AreNotLater t (take i c) but best

module _ (t c : List Lit) (i : ℕ) (but : Option Lit) (best d : Lit) (when at : ℕ) (lt : i < length c) (old : Best t c i but best when) where
  pub best_kept : IsFalseFrom t (get_or c i d) at → at ≤ when → Best t c (i + 1) but best when
  best_kept f le = record { among = old.among; other = old.other; since = old.since; later = later_more t c but best i d lt old.later (λ n. not_later t (get_or c i d) best at when f old.since le) }

  pub best_next : but ≢ Some (get_or c i d) → IsFalseFrom t (get_or c i d) at → when < at → Best t c (i + 1) but (get_or c i d) at
  best_next ne f less = record {
    among = (i, lt, get_or_default c i (get_or c i d) d lt);
    other = ne;
    since = f;
    later = later_more t c but (get_or c i d) i d lt (later_other t (take i c) but best (get_or c i d) old.later (not_later t best (get_or c i d) when at old.since f (omega arith))) (λ n. λ k h x. x);
  }

-- at an assumption where the clause was settled, the two literals that became false last are calm, where the last isn't
-- false
pub calm_before : (t c : List Lit) (a b : Lit) (k : ℕ) → AreFresh t → HasNoPair t → k ≤ length t → Contains c a → (Contains t (negated a) → ⊥) → AreNotLater t c (Some a) b → IsSettled (take k t) c → IsCalm (take k t) (take k t) c (Some (a, b))
calm_before t c a b k s ok le ca na later settled = ((λ h. absurd (na (in_take t k (negated a) h))), (λ h. at settled h))
  where
    pick : (m : Lit) → Contains c m → m ≢ a → Contains (take k t) (negated b) → Contains (take k t) (negated m)
    pick m cm ne h = let ne' : Some a ≢ Some m = λ e. let q : a ≡ m = cc in ne (sym q) in later m cm ne' k le h

    at : IsSettled (take k t) c → Contains (take k t) (negated b) → Contains (take k t) a
    at (inr e) h = let none : Contains [] a = subst (λ xs. Contains xs a) e ca in absurd (omega (arith, none.1))
    at (inl (inl (q, cq, tq))) h =
        elim (lit_cases q a) [
          | inl e ↦ subst (λ y. Contains (take k t) y) e tq
          | inr ne ↦ absurd (ok q (in_take t k q tq) (in_take t k (negated q) (pick q cq ne h)))
        ]
    at (inl (inr (x, y, ne, cx, cy, ox, oy))) h =
        elim (lit_cases x a) [
          | inl e ↦ absurd (oy.1 (pick y cy (λ f. ne (e ∙ sym f)) h))
          | inr n ↦ absurd (ox.1 (pick x cx n h))
        ]

-- the literals of c but for a and b are false
abbrev pub AreOthersFalse : List Lit → List Lit → Lit → Lit → Type 0
AreOthersFalse t c a b = (m : Lit) → Contains c m → m ≢ a → m ≢ b → Contains t (negated m)

-- a literal of c, other than a and b, that isn't false
abbrev pub IsOther : List Lit → List Lit → Lit → Lit → Lit × ℕ → Type 0
IsOther t c a b p = Contains c p.0 × (p.0 ≢ a) × (p.0 ≢ b) × (Contains t (negated p.0) → ⊥)

-- where those behind the front are false, what is found in the front is found in the whole
pub found_in_front : (r : Option (Lit × ℕ)) (t c front back : List Lit) (a b : Lit) → c ≡ front ++ back → AreOthersFalse t back a b → MatchOption r (AreOthersFalse t front a b) (IsOther t front a b) → MatchOption r (AreOthersFalse t c a b) (IsOther t c a b)
found_in_front None t c front back a b e rest found = λ m h na nb.
    elim (Contains-append_cases front back m (subst (λ ys. Contains ys m) e h)) [ inl x ↦ found m x na nb | inr y ↦ rest m y na nb ]
found_in_front (Some p) t c front back a b e rest found = (subst (λ ys. Contains ys p.0) (sym e) (Contains-append_left front back p.0 found.0), found.1, found.2, found.3)
