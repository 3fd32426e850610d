-- A store of terms that keeps the maps that it serves and its keys has the same keys, at the same kinds.
use Rattle.std.proofs.Common.{◌≡◌, ℕ, zero, suc, List, [], ◌∷◌, length, map, slice_get, Some, ℤ, pos, refl, sym, arith}
use Rattle.stk_ctype.specs.declared.kind.IntKind.{IntKind}
use Rattle.stk_numbers.specs.Kinds.{width_of}
use Rattle.stk_numbers.proofs.Residues.{residue_below}
use Rattle.stk_terms.specs.Fitting.{AreResidues}
use Rattle.stk_values.specs.Keeping.{Keeps}
use Rattle.stk_symbols.specs.Symbolic.{Symbolic, Covers, Serves, HasKey, IsMade, Shows}
use Rattle.stk_symbols.specs.Maps.{map_of}
use Rattle.stk_symbols.proofs.Mapped.{one_for_one}

abbrev zeros : List IntKind → List ℕ
zeros [] = []
zeros (k ∷ ks) = 0 ∷ zeros ks

zeros_fit : (ks : List IntKind) → AreResidues (map width_of ks) (zeros ks)
zeros_fit [] = tt
zeros_fit (k ∷ ks) = let h = residue_below (width_of k) (pos 0) in (omega (arith, h), zeros_fit ks)

as_many : (ks : List IntKind) (m : List ℤ) → Covers ks m → length m ≡ length ks
as_many [] [] h = refl
as_many [] (z ∷ zs) h = absurd h
as_many (k ∷ ks) [] h = absurd h
as_many (k ∷ ks) (z ∷ zs) h = let e = as_many ks zs h.1 in omega (arith, e)

one_list : {A : Type 0} (xs ys : List A) → length xs ≡ length ys → ((i : ℕ) (x : A) → slice_get xs i ≡ Some x → slice_get ys i ≡ Some x) → xs ≡ ys
one_list [] [] e f = refl
one_list [] (y ∷ ys) e f = absurd (omega (arith, e))
one_list (x ∷ xs) [] e f = absurd (omega (arith, e))
one_list (x ∷ xs) (y ∷ ys) e f =
    let h : Some y ≡ Some x = f zero x refl in
    let k : xs ≡ ys = one_list xs ys (omega (arith, e)) (λ i z g. f (suc i) z g) in
    cc

module _ (s now : Symbolic) (keeps : Keeps Serves HasKey IsMade Shows s now) (inputs : s.terms.inputs ≡ map width_of s.kinds) where
  abbrev some_map : List ℤ
  some_map = map_of s.kinds (zeros s.kinds)

  some_covers : Covers s.kinds some_map
  some_covers = (one_for_one s.kinds).covers (zeros s.kinds) (zeros_fit s.kinds)

  still_served : Serves now some_map
  still_served = keeps.served some_map (record { covers = some_covers; inputs_are = inputs })

  pub same_kinds : now.kinds ≡ s.kinds
  same_kinds =
      let a = as_many s.kinds some_map some_covers in
      let b = as_many now.kinds some_map still_served.covers in
      sym (one_list s.kinds now.kinds (omega (arith, a, b)) (λ i k e. (keeps.keys i k (record { known = e; inputs_are = inputs })).known))

  pub still_inputs : now.terms.inputs ≡ map width_of now.kinds
  still_inputs = still_served.inputs_are
