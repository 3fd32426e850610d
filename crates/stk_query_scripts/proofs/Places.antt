-- Places in lists.
use Rattle.std.proofs.Common.{◌≡◌, ℕ, zero, suc, ◌+◌, List, [], ◌∷◌, ◌++◌, length, map, Option, Some, None, refl, ap, ◌∙◌, arith}
use Rattle.std.specs.Prelude.{slice_get}
use Rattle.std.specs.Option.{option_map}

-- what stands in the front of a list
pub slice_get_front : {X : Type 0} (xs ys : List X) (i : ℕ) (x : X) → slice_get xs i ≡ Some x → slice_get (xs ++ ys) i ≡ Some x
slice_get_front [] ys zero x e = absurd cc
slice_get_front [] ys (suc i) x e = absurd cc
slice_get_front (y ∷ xs) ys zero x e = e
slice_get_front (y ∷ xs) ys (suc i) x e = slice_get_front xs ys i x e

-- and what stands behind another
pub slice_get_behind : {X : Type 0} (xs ys : List X) (j i : ℕ) → j ≡ length xs + i → slice_get (xs ++ ys) j ≡ slice_get ys i
slice_get_behind [] ys j i e = ap (slice_get ys) (omega (arith, e))
slice_get_behind (x ∷ xs) ys zero i e = absurd (omega (arith, e))
slice_get_behind (x ∷ xs) ys (suc j) i e = slice_get_behind xs ys j i (omega (arith, e))

slice_get_mapped : {X Y : Type 0} (f : X → Y) (xs : List X) (i : ℕ) → slice_get (map f xs) i ≡ option_map f (slice_get xs i)
slice_get_mapped f [] i = refl
slice_get_mapped f (x ∷ xs) zero = refl
slice_get_mapped f (x ∷ xs) (suc i) = slice_get_mapped f xs i

pub slice_get_map : {X Y : Type 0} (f : X → Y) (xs : List X) (i : ℕ) (x : X) → slice_get xs i ≡ Some x → slice_get (map f xs) i ≡ Some (f x)
slice_get_map f xs i x e = slice_get_mapped f xs i ∙ ap (option_map f) e
