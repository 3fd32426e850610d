-- Pairs of a function's objects are those of the objects of its walk.
use Rattle.std.proofs.Common.{◌≡◌, ◌∙◌, ℕ, ◌+◌, ◌*◌, Bool, true, false, List, [], ◌∷◌, map, length, refl, sym, ap, arith}
use Rattle.std.specs.Prelude.{if◌then◌else◌, filter}
use Rattle.stk_meaning.specs.Keys.{Object}
use Rattle.stk_meaning.specs.Weights as weights
use Rattle.stk_meaning.specs.Weights.{pairs_among}
use Rattle.stk_walk.specs.Validity.{walk_object, is_pair, pairs_with, pairs_in}

-- one pair more
pub with_paired : (b : Bool) (n : ℕ) → (if b then 1286 else 0) + 1286 * n ≡ 1286 * ((if b then 1 else 0) + n)
with_paired true n = omega arith
with_paired false n = omega arith

pub both_paired : (m n : ℕ) → 1286 * m + 1286 * n ≡ 1286 * (m + n)
both_paired m n = omega arith

pub both_equal : {a b c d : ℕ} → a ≡ c → b ≡ d → a + b ≡ c + d
both_equal {a} {b} {c} {d} e h = ap (λ x. x + b) e ∙ ap (λ x. c + x) h

one_more : (kept : List ℕ) (o p : Object) (os : List Object) (b : Bool) → weights.is_pair kept o p ≡ b → (if b then 1 else 0) + length (filter (weights.is_pair kept o) os) ≡ length (filter (weights.is_pair kept o) (p ∷ os))
one_more kept o p os true e = rw e (omega arith)
one_more kept o p os false e = rw e (omega arith)

with_are : (kept : List ℕ) (o : Object) (os : List Object) → pairs_with (walk_object kept o) (map (walk_object kept) os) ≡ length (filter (weights.is_pair kept o) os)
with_are kept o [] = refl
with_are kept o (p ∷ os) =
    ap (λ n. (if is_pair (walk_object kept o) (walk_object kept p) then 1 else 0) + n) (with_are kept o os)
    ∙ one_more kept o p os (weights.is_pair kept o p) refl

pub pairs_are : (kept : List ℕ) (os : List Object) → pairs_in (map (walk_object kept) os) ≡ pairs_among kept os
pairs_are kept [] = refl
pairs_are kept (o ∷ os) = both_equal (with_are kept o os) (pairs_are kept os)
