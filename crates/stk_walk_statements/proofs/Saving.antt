-- Registers that are saved before a scope, and given back behind it.
use Rattle.std.proofs.Common.{◌≡◌, ◌≤◌, ℕ, zero, suc, List, [], ◌∷◌, ◌++◌, length, ℤ, refl, sym, ap, subst, set, arith}
use Rattle.stk_ctype.specs.declared.kind.IntKind.{IntKind}
use Rattle.stk_meaning.specs.Worlds.{restored, register}
use Rattle.stk_walking.specs.Stands.{RowShows, RowMade}
use Rattle.stk_walking.proofs.Rows.{row_set, row_made_set, zero_then}
use Rattle.stk_walk_statements.specs.declared.scopes.Saved.{Saved}
use Rattle.stk_walk_statements.specs.Saved.{SavedMade, SavedShow, given_back}

module _ {V : Type 0} (kinds : ℕ → IntKind) where
  -- in a store that keeps what was made
  pub saved_made : (f h : IntKind → V → Type 0) → ((k : IntKind) (v : V) → f k v → h k v) → (xs : List (Saved V)) → SavedMade f kinds xs → SavedMade h kinds xs
  saved_made f h keep [] a = tt
  saved_made f h keep (x ∷ xs) a = (keep (kinds x.register) x.value a.0, saved_made f h keep xs a.1)

  pub saved_shown : (f h : IntKind → V → ℤ → Type 0) → ((k : IntKind) (v : V) (z : ℤ) → f k v z → h k v z) → (xs : List (Saved V)) (ks : List ℕ) (r : List ℤ) → SavedShow f kinds xs ks r → SavedShow h kinds xs ks r
  saved_shown f h keep [] [] r a = tt
  saved_shown f h keep [] (k ∷ ks) r a = absurd a
  saved_shown f h keep (x ∷ xs) [] r a = absurd a
  saved_shown f h keep (x ∷ xs) (k ∷ ks) r a = (a.0, keep (kinds k) x.value (register k r) a.1, saved_shown f h keep xs ks r a.2)

  -- one more
  pub saved_more_made : (f : IntKind → V → Type 0) (xs : List (Saved V)) (k : ℕ) (v : V) → SavedMade f kinds xs → f (kinds k) v → SavedMade f kinds (xs ++ record { register = k; value = v } ∷ [])
  saved_more_made f [] k v a m = (m, tt)
  saved_more_made f (y ∷ xs) k v a m = (a.0, saved_more_made f xs k v a.1 m)

  pub saved_more : (f : IntKind → V → ℤ → Type 0) (xs : List (Saved V)) (ks : List ℕ) (k : ℕ) (v : V) (r : List ℤ) → SavedShow f kinds xs ks r → f (kinds k) v (register k r) → SavedShow f kinds (xs ++ record { register = k; value = v } ∷ []) (ks ++ k ∷ []) r
  saved_more f [] [] k v r a m = (refl, m, tt)
  saved_more f [] (j ∷ ks) k v r a m = absurd a
  saved_more f (y ∷ xs) [] k v r a m = absurd a
  saved_more f (y ∷ xs) (j ∷ ks) k v r a m = (a.0, a.1, saved_more f xs ks k v r a.2 m)

  -- what was saved is what a scope restores
  pub given_back_made : (f : IntKind → V → Type 0) (xs : List (Saved V)) (vs : List V) → SavedMade f kinds xs → RowMade f kinds 0 vs → RowMade f kinds 0 (given_back xs vs)
  given_back_made f [] vs a b = b
  given_back_made f (x ∷ xs) vs a b = row_made_set f kinds 0 (given_back xs vs) x.register x.value (given_back_made f xs vs a.1 b) (subst (λ (n : ℕ). f (kinds n) x.value) (sym (zero_then x.register)) a.0)

  pub given_back_shown : (f : IntKind → V → ℤ → Type 0) (xs : List (Saved V)) (ks : List ℕ) (vs : List V) (old now : List ℤ) → SavedShow f kinds xs ks old → RowShows f kinds 0 vs now → RowShows f kinds 0 (given_back xs vs) (restored ks old now)
  given_back_shown f [] [] vs old now a b = b
  given_back_shown f [] (k ∷ ks) vs old now a b = absurd a
  given_back_shown f (x ∷ xs) [] vs old now a b = absurd a
  given_back_shown f (x ∷ xs) (k ∷ ks) vs old now a b =
      let there = row_set f kinds 0 (given_back xs vs) (restored ks old now) k x.value (register k old) (given_back_shown f xs ks vs old now a.2 b) (subst (λ (n : ℕ). f (kinds n) x.value (register k old)) (sym (zero_then k)) a.1) in
      subst (λ (n : ℕ). RowShows f kinds 0 (set (given_back xs vs) n x.value) (restored (k ∷ ks) old now)) (sym a.0) there

-- the last one first
pub last_first : {V : Type 0} (xs : List (Saved V)) (x : Saved V) (r : List V) → given_back (xs ++ x ∷ []) r ≡ given_back xs (set r x.register x.value)
last_first [] x r = refl
last_first (y ∷ xs) x r = ap (λ z. set z y.register y.value) (last_first xs x r)

-- past the registers that there are
pub set_past : {V : Type 0} (xs : List V) (j : ℕ) (x : V) → length xs ≤ j → set xs j x ≡ xs
set_past [] j x l = refl
set_past (y ∷ xs) zero x l = absurd (omega arith)
set_past (y ∷ xs) (suc j) x l = ap (λ z. y ∷ z) (set_past xs j x (omega arith))
