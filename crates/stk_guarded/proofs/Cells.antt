-- A kept object under a guard: what a read, a store and a removal leave.
use Rattle.std.proofs.Common.{◌≡◌, ℕ, zero, suc, ◌+◌, Bool, true, false, ◌&&◌, ◌||◌, not, [], ◌∷◌, ℤ, Option, Some, None, refl, sym, ap, ◌∙◌, subst, get_or, set}
use Rattle.std.specs.Prelude.{if◌then◌else◌}
use Rattle.stk_meaning.specs.Worlds.{told}
use Rattle.stk_meaning.specs.Paths.{KeptNumbers, kept_or, forgotten_from}
use Rattle.stk_guarded.specs.Standing.{Standing, moved_to, Goes}
use Rattle.stk_guarded.specs.Cells.{read_of, content, removed_from}
use Rattle.stk_guarded.proofs.Evaluations.{moves_goes}

-- what is set to what it is
pub set_own : (kept : KeptNumbers) (q : ℕ) → set kept q (get_or kept q None) ≡ kept
set_own [] q = refl
set_own (x ∷ kept) zero = refl
set_own (x ∷ kept) (suc q) = ap (λ z. x ∷ z) (set_own kept q)

-- a read gives what is kept, or the input's number, and keeps what it gives
pub kept_read : (q : ℕ) (y : ℤ) (kept : KeptNumbers) → kept_or q y (get_or kept q None) kept ≡ (read_of y (get_or kept q None), set kept q (Some (read_of y (get_or kept q None))))
kept_read q y kept = by (get_or kept q None) refl
  where
    by : (c : Option ℤ) → get_or kept q None ≡ c → kept_or q y c kept ≡ (read_of y c, set kept q (Some (read_of y c)))
    by None e = refl
    by (Some x) e = ap (λ (z : KeptNumbers). (x, z)) (sym (ap (set kept q) (sym e) ∙ set_own kept q))

pub read_goes : (q : ℕ) (y : ℤ) (s : Standing) → Goes (told (kept_or q y (get_or s.kept q None) s.kept) s.numbers) (read_of y (get_or s.kept q None)) s (moved_to s.numbers (set s.kept q (Some (read_of y (get_or s.kept q None)))) s)
read_goes q y s =
    let x = read_of y (get_or s.kept q None) in
    subst (λ z. Goes (told z s.numbers) x s (moved_to s.numbers (set s.kept q (Some x)) s)) (sym (kept_read q y s.kept)) (moves_goes x s.numbers (set s.kept q (Some x)) s)

pub after_read : (b known : Bool) (number y : ℤ) → content (known || b) (if known then number else y) ≡ (if b then Some (read_of y (content known number)) else content known number)
after_read true true number y = refl
after_read true false number y = refl
after_read false true number y = refl
after_read false false number y = refl

pub read_is : (known : Bool) (number y : ℤ) → (if known then number else y) ≡ read_of y (content known number)
read_is true number y = refl
read_is false number y = refl

pub after_store : (b known : Bool) (number x : ℤ) → content (known || b) (if b then x else number) ≡ (if b then Some x else content known number)
after_store true true number x = refl
after_store true false number x = refl
after_store false true number x = refl
after_store false false number x = refl

pub after_removal : (b known : Bool) (number : ℤ) → content (known && not b) number ≡ (if b then None else content known number)
after_removal true true number = refl
after_removal true false number = refl
after_removal false true number = refl
after_removal false false number = refl

-- one object at a time, under the guard
pub set_under : (b : Bool) (kept : KeptNumbers) (q : ℕ) (x : Option ℤ) → set kept q (if b then x else get_or kept q None) ≡ (if b then set kept q x else kept)
set_under true kept q x = refl
set_under false kept q x = set_own kept q

same_if : {A : Type 0} (c : Bool) (x : A) → (if c then x else x) ≡ x
same_if true x = refl
same_if false x = refl

pub removed_is : (i : ℕ) (b : Bool) (test : ℕ → Bool) (kept : KeptNumbers) → removed_from i b test kept ≡ (if b then forgotten_from i test kept else kept)
removed_is i true test [] = refl
removed_is i false test [] = refl
removed_is i true test (x ∷ xs) = ap (λ z. (if test i then None else x) ∷ z) (removed_is (i + 1) true test xs)
removed_is i false test (x ∷ xs) = ap (λ z. z ∷ removed_from (i + 1) false test xs) (same_if (test i) x) ∙ ap (λ z. x ∷ z) (removed_is (i + 1) false test xs)
