-- Objects by the values of their addresses and ends.
use Rattle.std.specs.Prelude.{ℕ, ◌+◌, ◌%◌, ◌^◌, List, [], ◌∷◌, ℤ, pos}
use Rattle.stk_walk.specs.declared.objects.WalkObject.{WalkObject}
use Rattle.stk_walk.specs.declared.validity.Located.{Located}

-- the end of an object modulo 2^64
abbrev pub wrapped_end : (ℕ → ℕ) → WalkObject → ℕ
wrapped_end a o = (a o.node + o.size) % 2 ^ 64

-- both values are shown
pub record IsLocated {V : Type 0} (shows : V → ℤ → Type 0) (a : ℕ → ℕ) (x : Located V) : Type 0 where
  pub address : shows x.address (pos (a x.object.node))
  pub end : shows x.end (pos (wrapped_end a x.object))

abbrev pub AreLocated : {V : Type 0} → (V → ℤ → Type 0) → (ℕ → ℕ) → List (Located V) → Type 0
AreLocated shows a [] = Unit {0}
AreLocated shows a (x ∷ xs) = IsLocated shows a x × AreLocated shows a xs

-- both values were made
pub record IsLocatedMade {V : Type 0} (made : V → Type 0) (x : Located V) : Type 0 where
  pub address : made x.address
  pub end : made x.end

abbrev pub AreLocatedMade : {V : Type 0} → (V → Type 0) → List (Located V) → Type 0
AreLocatedMade made [] = Unit {0}
AreLocatedMade made (x ∷ xs) = IsLocatedMade made x × AreLocatedMade made xs

-- the objects
abbrev pub objects_of : {V : Type 0} → List (Located V) → List WalkObject
objects_of [] = []
objects_of (x ∷ xs) = x.object ∷ objects_of xs
