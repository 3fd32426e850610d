-- Registers of a walk, read and set.
use Rattle.std.proofs.Common.{◌≡◌, ℕ, suc, zero, ◌+◌, ◌<◌, ◌≤◌, Bool, true, false, List, [], ◌∷◌, length, ℤ, pos, refl, sym, ap, subst, get_or, set, arith}
use Rattle.std.specs.Prelude.{if◌then◌else◌}
use Rattle.stk_ctype.specs.declared.kind.IntKind.{IntKind}
use Rattle.stk_walking.specs.Stands.{RowShows, RowMade}
use Rattle.stk_walking.proofs.Carried.{row_shown}

-- the values of registers are made where one is set
pub row_made_set : {V : Type 0} (f : IntKind → V → Type 0) (kinds : ℕ → IntKind) (i : ℕ) (vs : List V) (j : ℕ) (v : V) → RowMade f kinds i vs → f (kinds (i + j)) v → RowMade f kinds i (set vs j v)
row_made_set f kinds i [] j v a m = tt
row_made_set f kinds i (w ∷ vs) zero v a m = (subst (λ n. f (kinds n) v) (omega arith) m, a.1)
row_made_set f kinds i (w ∷ vs) (suc j) v a m = (a.0, row_made_set f kinds (i + 1) vs j v a.1 (subst (λ n. f (kinds n) v) (omega arith) m))

-- registers where one is set
pub row_set : {V : Type 0} (f : IntKind → V → ℤ → Type 0) (kinds : ℕ → IntKind) (i : ℕ) (vs : List V) (xs : List ℤ) (j : ℕ) (v : V) (x : ℤ) → RowShows f kinds i vs xs → f (kinds (i + j)) v x → RowShows f kinds i (set vs j v) (set xs j x)
row_set f kinds i [] [] j v x a m = tt
row_set f kinds i [] (y ∷ xs) j v x a m = absurd a
row_set f kinds i (w ∷ vs) [] j v x a m = absurd a
row_set f kinds i (w ∷ vs) (y ∷ xs) zero v x a m = (subst (λ n. f (kinds n) v x) (omega arith) m, a.1)
row_set f kinds i (w ∷ vs) (y ∷ xs) (suc j) v x a m = (a.0, row_set f kinds (i + 1) vs xs j v x a.1 (subst (λ n. f (kinds n) v x) (omega arith) m))

-- where there is no such register, nothing is set
pub row_length : {V : Type 0} (f : IntKind → V → ℤ → Type 0) (kinds : ℕ → IntKind) (i : ℕ) (vs : List V) (xs : List ℤ) → RowShows f kinds i vs xs → length xs ≡ length vs
row_length f kinds i [] [] a = refl
row_length f kinds i [] (x ∷ xs) a = absurd a
row_length f kinds i (v ∷ vs) [] a = absurd a
row_length f kinds i (v ∷ vs) (x ∷ xs) a = ap suc (row_length f kinds (i + 1) vs xs a.1)

-- what is set to what it was
pub set_to_own : (b : Bool) (xs : List ℤ) (j : ℕ) (x : ℤ) → set xs j (if b then x else get_or xs j (pos 0)) ≡ (if b then set xs j x else xs)
set_to_own true xs j x = refl
set_to_own false [] j x = refl
set_to_own false (y ∷ xs) zero x = refl
set_to_own false (y ∷ xs) (suc j) x = ap (λ z. y ∷ z) (set_to_own false xs j x)

-- a position from 0 on
pub zero_then : (j : ℕ) → 0 + j ≡ j
zero_then j = omega arith

-- past the registers that there are
pub set_past : (xs : List ℤ) (j : ℕ) (x : ℤ) → length xs ≤ j → set xs j x ≡ xs
set_past [] j x l = refl
set_past (y ∷ xs) zero x l = absurd (omega arith)
set_past (y ∷ xs) (suc j) x l = ap (λ z. y ∷ z) (set_past xs j x (omega arith))

-- the number past the registers that there are
pub get_past : (xs : List ℤ) (j : ℕ) → length xs ≤ j → get_or xs j (pos 0) ≡ pos 0
get_past [] j l = refl
get_past (y ∷ xs) zero l = absurd (omega arith)
get_past (y ∷ xs) (suc j) l = get_past xs j (omega arith)

-- a set past the registers that there are, under a guard
pub past_if : (b : Bool) (xs : List ℤ) (j : ℕ) (x : ℤ) → length xs ≤ j → xs ≡ (if b then set xs j x else xs)
past_if true xs j x l = sym (set_past xs j x l)
past_if false xs j x l = refl

-- the value in a place, as the code reads it
pub row_kept_set : {V : Type 0} (f h : IntKind → V → ℤ → Type 0) → ((k : IntKind) (v : V) (z : ℤ) → f k v z → h k v z) → (kinds : ℕ → IntKind) (vs : List V) (xs : List ℤ) (j : ℕ) (v : V) (b : Bool) (x : ℤ) →
    RowShows f kinds 0 vs xs → h (kinds j) v (if b then x else get_or xs j (pos 0)) → RowShows h kinds 0 (set vs j v) (if b then set xs j x else xs)
row_kept_set f h keep kinds vs xs j v b x a m =
    subst (λ (z : List ℤ). RowShows h kinds 0 (set vs j v) z) (set_to_own b xs j x)
    (row_set h kinds 0 vs xs j v (if b then x else get_or xs j (pos 0)) (row_shown f h keep kinds 0 vs xs a) (subst (λ n. h (kinds n) v (if b then x else get_or xs j (pos 0))) (sym (zero_then j)) m))

-- a register that there is
pub row_in : {V : Type 0} (f : IntKind → V → ℤ → Type 0) (kinds : ℕ → IntKind) (i : ℕ) (vs : List V) (xs : List ℤ) (j : ℕ) (v : V) → RowShows f kinds i vs xs → j < length vs → get_or vs j v ≡ v → f (kinds (i + j)) v (get_or xs j (pos 0))
row_in f kinds i [] [] j v a l e = absurd (omega arith)
row_in f kinds i [] (x ∷ xs) j v a l e = absurd a
row_in f kinds i (w ∷ vs) [] j v a l e = absurd a
row_in {V} f kinds i (w ∷ vs) (x ∷ xs) zero v a l e = subst (λ (z : V). f (kinds (i + 0)) z x) e (subst (λ n. f (kinds n) w x) (omega arith) a.0)
row_in f kinds i (w ∷ vs) (x ∷ xs) (suc j) v a l e = subst (λ n. f (kinds n) v (get_or xs j (pos 0))) (omega arith) (row_in f kinds (i + 1) vs xs j v a.1 (omega arith) e)

-- its value was made
pub row_made_in : {V : Type 0} (f : IntKind → V → Type 0) (kinds : ℕ → IntKind) (i : ℕ) (vs : List V) (j : ℕ) (v : V) → RowMade f kinds i vs → j < length vs → get_or vs j v ≡ v → f (kinds (i + j)) v
row_made_in f kinds i [] j v a l e = absurd (omega arith)
row_made_in {V} f kinds i (w ∷ vs) zero v a l e = subst (λ (z : V). f (kinds (i + 0)) z) e (subst (λ n. f (kinds n) w) (omega arith) a.0)
row_made_in f kinds i (w ∷ vs) (suc j) v a l e = subst (λ n. f (kinds n) v) (omega arith) (row_made_in f kinds (i + 1) vs j v a.1 (omega arith) e)
