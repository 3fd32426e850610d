-- Input maps by their numbers. They are ordered by their first number, then by the next, each by its residue modulo 2
-- to the width of its kind.
use Rattle.std.specs.Prelude.{◌≡◌, ℕ, ◌+◌, ◌/◌, ◌%◌, ◌^◌, ◌<◌, ◌⊎◌, true, List, [], ◌∷◌, ℤ, pos}
use Rattle.stk_ctype.specs.declared.kind.IntKind.{IntKind}
use Rattle.stk_numbers.specs.Kinds.{width_of, fits, wrap, residue}

-- the bits of a map for keys of these kinds
abbrev pub bits_in : List IntKind → ℕ
bits_in [] = 0
bits_in (k ∷ ks) = width_of k + bits_in ks

-- a number in the range of its kind for each key
abbrev pub Covers : List IntKind → List ℤ → Type 0
Covers [] [] = Unit {0}
Covers [] (x ∷ xs) = ⊥
Covers (k ∷ ks) [] = ⊥
Covers (k ∷ ks) (x ∷ xs) = (fits k x ≡ true) × Covers ks xs

-- one map comes before another: at the first key at which their residues differ it has the smaller one
abbrev pub Precedes : List IntKind → List ℤ → List ℤ → Type 0
Precedes [] xs ys = ⊥
Precedes (k ∷ ks) [] ys = ⊥
Precedes (k ∷ ks) (x ∷ xs) [] = ⊥
Precedes (k ∷ ks) (x ∷ xs) (y ∷ ys) = (residue (width_of k) x < residue (width_of k) y) ⊎ ((residue (width_of k) x ≡ residue (width_of k) y) × Precedes ks xs ys)

-- the map of a number: the bits of the first key are the highest ones
abbrev pub map_at : List IntKind → ℕ → List ℤ
map_at [] n = []
map_at (k ∷ ks) n = wrap k (pos (n / 2 ^ bits_in ks)) ∷ map_at ks (n % 2 ^ bits_in ks)

-- a map has a number
pub record HasNumber (ks : List IntKind) (xs : List ℤ) : Type 0 where
  pub number : ℕ
  pub below : number < 2 ^ bits_in ks
  pub is : map_at ks number ≡ xs

-- the maps are those of the numbers below 2 to the sum of the widths, in the order of these
pub record AreNumbered (ks : List IntKind) : Type 0 where
  pub covers : (n : ℕ) → n < 2 ^ bits_in ks → Covers ks (map_at ks n)
  pub numbered : (xs : List ℤ) → Covers ks xs → HasNumber ks xs
  pub ordered : (m n : ℕ) → m < 2 ^ bits_in ks → n < 2 ^ bits_in ks → Precedes ks (map_at ks m) (map_at ks n) → m < n

abbrev pub AreMapsByNumber : Type 0
AreMapsByNumber = (ks : List IntKind) → AreNumbered ks
