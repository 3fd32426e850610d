-- Candidates in order have ascending ranks, so that a partition by rank is a position.
use Rattle.std.proofs.Common.{ℕ, zero, suc, ◌≡◌, ◌<◌, ◌≤◌, Bool, true, false, List, [], ◌∷◌, length, get_or, refl, subst, ap, inl, inr, ltb, arith}
use Rattle.std.specs.List.Sorted.{IsNonDecreasingBy, IsPartitionPoint}
use Rattle.std.proofs.lemmas.Bool.{ltb-true, ltb-false}
use Rattle.stk_numbers.specs.declared.conditions.CandKind.{CandKind}
use Rattle.stk_numbers.specs.declared.conditions.CandKind.TheVariants.{Arm, AlwaysTrue, AlwaysFalse, Algebra}
use Rattle.stk_numbers.specs.declared.conditions.Candidate.{Candidate}
use Rattle.stk_run_laws.specs.Listed.{candidate_number, CandidateBefore, IsBeforeAll, AreInOrder}
use Rattle.stk_walk.specs.Steps.{rank}

small : (k : CandKind) → candidate_number k < 4
small Arm = omega arith
small AlwaysTrue = omega arith
small AlwaysFalse = omega arith
small Algebra = omega arith

ranked : (a b : Candidate) → CandidateBefore a b → rank a < rank b
ranked a b (inl h) = omega (arith, h, small a.kind)
ranked a b (inr h) = omega (arith, h.0, h.1)

before_all : (x : Candidate) (xs : List Candidate) → IsBeforeAll CandidateBefore x xs → (j : ℕ) (d : Candidate) → j < length xs → rank x < rank (get_or xs j d)
before_all x [] h j d l = absurd (omega (arith, l))
before_all x (y ∷ ys) h zero d l = ranked x y h.0
before_all x (y ∷ ys) h (suc j) d l = before_all x ys h.1 j d (omega (arith, l))

rises : (xs : List Candidate) → AreInOrder CandidateBefore xs → (i j : ℕ) (d : Candidate) → i < j → j < length xs → rank (get_or xs i d) < rank (get_or xs j d)
rises [] h i j d l m = absurd (omega (arith, m))
rises (x ∷ xs) h zero zero d l m = absurd (omega (arith, l))
rises (x ∷ xs) h zero (suc j) d l m = before_all x xs h.0 j d (omega (arith, m))
rises (x ∷ xs) h (suc i) zero d l m = absurd (omega (arith, l))
rises (x ∷ xs) h (suc i) (suc j) d l m = rises xs h.1 i j d (omega (arith, l)) (omega (arith, m))

pub non_decreasing : (xs : List Candidate) → AreInOrder CandidateBefore xs → IsNonDecreasingBy rank xs
non_decreasing xs h i j d l m = by (ltb i j) refl where
  by : (b : Bool) → ltb i j ≡ b → rank (get_or xs i d) ≤ rank (get_or xs j d)
  by true e = let r : rank (get_or xs i d) < rank (get_or xs j d) = rises xs h i j d (ltb-true i j e) m in omega (arith, r)
  by false e = let same : i ≡ j = omega (arith, l, ltb-false i j e) in subst (λ k. rank (get_or xs i d) ≤ rank (get_or xs k d)) same (omega arith)

-- the place of an element is the one that a partition by its rank finds
pub point_is : (xs : List Candidate) (k i : ℕ) (c : Candidate) → AreInOrder CandidateBefore xs → k < length xs → get_or xs k c ≡ c → i ≤ length xs → IsPartitionPoint (λ y. ltb (rank y) (rank c) ≡ true) (λ y. ltb (rank y) (rank c) ≡ false) xs i → i ≡ k
point_is xs k i c h inside there few p = by (ltb i k) (ltb k i) refl refl where
  by : (a b : Bool) → ltb i k ≡ a → ltb k i ≡ b → i ≡ k
  by true b e f =
      let early : rank (get_or xs i c) < rank (get_or xs k c) = rises xs h i k c (ltb-true i k e) inside in
      let late : rank c ≤ rank (get_or xs i c) = ltb-false (rank (get_or xs i c)) (rank c) (p.1 i c (omega arith) (omega (arith, ltb-true i k e, inside))) in
      absurd (omega (arith, early, late, ap rank there))
  by false true e f =
      let early : rank (get_or xs k c) < rank c = ltb-true (rank (get_or xs k c)) (rank c) (p.0 k c (omega arith) (ltb-true k i f)) in
      absurd (omega (arith, early, ap rank there))
  by false false e f = omega (arith, ltb-false i k e, ltb-false k i f)
