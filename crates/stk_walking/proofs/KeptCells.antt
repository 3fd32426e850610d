-- Kept objects of a walk, read and set.
use Rattle.std.proofs.Common.{◌≡◌, ℕ, suc, zero, ◌+◌, ◌<◌, ◌≤◌, Bool, true, false, not, ◌&&◌, ◌||◌, List, [], ◌∷◌, length, ℤ, Option, Some, None, refl, sym, ap, ◌∙◌, subst, get_or, set, arith}
use Rattle.std.specs.Prelude.{if◌then◌else◌}
use Rattle.stk_ctype.specs.declared.kind.IntKind.{IntKind}
use Rattle.stk_ctype.specs.declared.kind.IntKind.TheVariants.{Int}
use Rattle.stk_meaning.specs.Operations.{bit}
use Rattle.stk_meaning.specs.Paths.{KeptNumbers}
use Rattle.stk_guarded.specs.Cells.{content, read_of}
use Rattle.stk_guarded.proofs.Cells.{after_store, after_read, after_removal, set_under}
use Rattle.stk_walking.specs.declared.state.KeptCell.{KeptCell}
use Rattle.stk_walking.specs.Stands.{CellShows, CellsShow, CellsMade}
use Rattle.stk_walking.proofs.Carried.{cells_shown}
use Rattle.stk_walking.proofs.Rows.{zero_then}

-- a kept object that there is
pub cell_in : {V : Type 0} (f : IntKind → V → ℤ → Type 0) (kinds : ℕ → IntKind) (i : ℕ) (cs : List (KeptCell V)) (kept : KeptNumbers) (j : ℕ) (c : KeptCell V) → CellsShow f kinds i cs kept → j < length cs → get_or cs j c ≡ c → CellShows f (kinds (i + j)) c (get_or kept j None)
cell_in f kinds i [] [] j c a l e = absurd (omega arith)
cell_in f kinds i [] (x ∷ kept) j c a l e = absurd a
cell_in f kinds i (d ∷ cs) [] j c a l e = absurd a
cell_in {V} f kinds i (d ∷ cs) (x ∷ kept) zero c a l e = subst (λ (z : KeptCell V). CellShows f (kinds (i + 0)) z x) e (subst (λ n. CellShows f (kinds n) d x) (omega arith) a.0)
cell_in f kinds i (d ∷ cs) (x ∷ kept) (suc j) c a l e = subst (λ n. CellShows f (kinds n) c (get_or kept j None)) (omega arith) (cell_in f kinds (i + 1) cs kept j c a.1 (omega arith) e)

-- kept objects where one is set
pub cells_set : {V : Type 0} (f : IntKind → V → ℤ → Type 0) (kinds : ℕ → IntKind) (i : ℕ) (cs : List (KeptCell V)) (kept : KeptNumbers) (j : ℕ) (c : KeptCell V) (x : Option ℤ) → CellsShow f kinds i cs kept → CellShows f (kinds (i + j)) c x → CellsShow f kinds i (set cs j c) (set kept j x)
cells_set f kinds i [] [] j c x a m = tt
cells_set f kinds i [] (y ∷ kept) j c x a m = absurd a
cells_set f kinds i (d ∷ cs) [] j c x a m = absurd a
cells_set f kinds i (d ∷ cs) (y ∷ kept) zero c x a m = (subst (λ n. CellShows f (kinds n) c x) (omega arith) m, a.1)
cells_set f kinds i (d ∷ cs) (y ∷ kept) (suc j) c x a m = (a.0, cells_set f kinds (i + 1) cs kept j c x a.1 (subst (λ n. CellShows f (kinds n) c x) (omega arith) m))

-- there are as many as kept numbers
pub cells_length : {V : Type 0} (f : IntKind → V → ℤ → Type 0) (kinds : ℕ → IntKind) (i : ℕ) (cs : List (KeptCell V)) (kept : KeptNumbers) → CellsShow f kinds i cs kept → length kept ≡ length cs
cells_length f kinds i [] [] a = refl
cells_length f kinds i [] (x ∷ kept) a = absurd a
cells_length f kinds i (c ∷ cs) [] a = absurd a
cells_length f kinds i (c ∷ cs) (x ∷ kept) a = ap suc (cells_length f kinds (i + 1) cs kept a.1)

-- the values of one were made
pub cell_made_in : {V : Type 0} (f : IntKind → V → Type 0) (kinds : ℕ → IntKind) (i : ℕ) (cs : List (KeptCell V)) (j : ℕ) (c : KeptCell V) → CellsMade f kinds i cs → j < length cs → get_or cs j c ≡ c → f Int c.known × f (kinds (i + j)) c.number
cell_made_in f kinds i [] j c a l e = absurd (omega arith)
cell_made_in {V} f kinds i (d ∷ cs) zero c a l e = subst (λ (z : KeptCell V). f Int z.known × f (kinds (i + 0)) z.number) e (a.0, subst (λ n. f (kinds n) d.number) (omega arith) a.1.0)
cell_made_in f kinds i (d ∷ cs) (suc j) c a l e = let more = cell_made_in f kinds (i + 1) cs j c a.1.1 (omega arith) e in (more.0, subst (λ n. f (kinds n) c.number) (omega arith) more.1)

-- the values of kept objects are made where one is set
pub cells_made_set : {V : Type 0} (f : IntKind → V → Type 0) (kinds : ℕ → IntKind) (i : ℕ) (cs : List (KeptCell V)) (j : ℕ) (c : KeptCell V) → CellsMade f kinds i cs → f Int c.known → f (kinds (i + j)) c.number → CellsMade f kinds i (set cs j c)
cells_made_set f kinds i [] j c a k n = tt
cells_made_set f kinds i (d ∷ cs) zero c a k n = (k, (subst (λ n. f (kinds n) c.number) (omega arith) n, a.1.1))
cells_made_set f kinds i (d ∷ cs) (suc j) c a k n = (a.0, (a.1.0, cells_made_set f kinds (i + 1) cs j c a.1.1 k (subst (λ n. f (kinds n) c.number) (omega arith) n)))

-- a store past the objects that there are
pub set_past : (kept : KeptNumbers) (q : ℕ) (x : Option ℤ) (b : Bool) → length kept ≤ q → kept ≡ (if b then set kept q x else kept)
set_past kept q x false l = refl
set_past [] q x true l = refl
set_past (y ∷ kept) zero x true l = absurd (omega arith)
set_past (y ∷ kept) (suc q) x true l = ap (λ z. y ∷ z) (set_past kept q x true (omega arith))

-- what is kept past the objects that there are
pub get_past : (kept : KeptNumbers) (q : ℕ) → length kept ≤ q → get_or kept q None ≡ None
get_past [] q l = refl
get_past (y ∷ kept) zero l = absurd (omega arith)
get_past (y ∷ kept) (suc q) l = get_past kept q (omega arith)

-- what a store leaves: f is what was shown before, h what is shown then
pub cells_stored : {V : Type 0} (f h : IntKind → V → ℤ → Type 0) → ((k : IntKind) (v : V) (z : ℤ) → f k v z → h k v z) → (kinds : ℕ → IntKind) (cs : List (KeptCell V)) (kept : KeptNumbers) (q : ℕ) (known number : V) (b before : Bool) (y x : ℤ) →
    CellsShow f kinds 0 cs kept → get_or kept q None ≡ content before y → h Int known (bit (before || b)) → h (kinds q) number (if b then x else y) →
    CellsShow h kinds 0 (set cs q (record { known = known; number = number })) (if b then set kept q (Some x) else kept)
cells_stored f h keep kinds cs kept q known number b before y x a is hk hn =
    subst (λ (z : KeptNumbers). CellsShow h kinds 0 (set cs q (record { known = known; number = number })) z) (set_under b kept q (Some x))
    (cells_set h kinds 0 cs kept q (record { known = known; number = number }) (if b then Some x else get_or kept q None) (cells_shown f h keep kinds 0 cs kept a)
    (record {
      known = before || b;
      number = if b then x else y;
      known_is = hk;
      number_is = subst (λ n. h (kinds n) number (if b then x else y)) (sym (zero_then q)) hn;
      is = ap (λ (z : Option ℤ). if b then Some x else z) is ∙ sym (after_store b before y x);
    }))

-- what a read leaves, where the input gives x
pub cells_read : {V : Type 0} (f h : IntKind → V → ℤ → Type 0) → ((k : IntKind) (v : V) (z : ℤ) → f k v z → h k v z) → (kinds : ℕ → IntKind) (cs : List (KeptCell V)) (kept : KeptNumbers) (q : ℕ) (known number : V) (b before : Bool) (y x : ℤ) →
    CellsShow f kinds 0 cs kept → get_or kept q None ≡ content before y → h Int known (bit (before || b)) → h (kinds q) number (if before then y else x) →
    CellsShow h kinds 0 (set cs q (record { known = known; number = number })) (if b then set kept q (Some (read_of x (get_or kept q None))) else kept)
cells_read f h keep kinds cs kept q known number b before y x a is hk hn =
    subst (λ (z : KeptNumbers). CellsShow h kinds 0 (set cs q (record { known = known; number = number })) z) (set_under b kept q (Some (read_of x (get_or kept q None))))
    (cells_set h kinds 0 cs kept q (record { known = known; number = number }) (if b then Some (read_of x (get_or kept q None)) else get_or kept q None) (cells_shown f h keep kinds 0 cs kept a)
    (record {
      known = before || b;
      number = if before then y else x;
      known_is = hk;
      number_is = subst (λ n. h (kinds n) number (if before then y else x)) (sym (zero_then q)) hn;
      is = ap (λ (z : Option ℤ). if b then Some (read_of x z) else z) is ∙ sym (after_read b before y x);
    }))

-- what a removal leaves
pub cells_removed : {V : Type 0} (f h : IntKind → V → ℤ → Type 0) → ((k : IntKind) (v : V) (z : ℤ) → f k v z → h k v z) → (kinds : ℕ → IntKind) (cs : List (KeptCell V)) (kept : KeptNumbers) (q : ℕ) (known number : V) (b before : Bool) (y : ℤ) →
    CellsShow f kinds 0 cs kept → get_or kept q None ≡ content before y → h Int known (bit (before && not b)) → h (kinds q) number y →
    CellsShow h kinds 0 (set cs q (record { known = known; number = number })) (if b then set kept q None else kept)
cells_removed f h keep kinds cs kept q known number b before y a is hk hn =
    subst (λ (z : KeptNumbers). CellsShow h kinds 0 (set cs q (record { known = known; number = number })) z) (set_under b kept q None)
    (cells_set h kinds 0 cs kept q (record { known = known; number = number }) (if b then None else get_or kept q None) (cells_shown f h keep kinds 0 cs kept a)
    (record {
      known = before && not b;
      number = y;
      known_is = hk;
      number_is = subst (λ n. h (kinds n) number y) (sym (zero_then q)) hn;
      is = ap (λ (z : Option ℤ). if b then None else z) is ∙ sym (after_removal b before y);
    }))
