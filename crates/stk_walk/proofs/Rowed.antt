-- Registers and kept objects, one after the other.
use Rattle.std.proofs.Common.{ℕ, zero, suc, ◌≡◌, ◌+◌, List, [], ◌∷◌, ◌++◌, length, replicate, ℤ, Option, refl, ap, ◌∙◌, subst, arith}
use Rattle.stk_ctype.specs.declared.kind.IntKind.{IntKind}
use Rattle.stk_ctype.specs.declared.kind.IntKind.TheVariants.{Int}
use Rattle.stk_meaning.specs.Paths.{KeptNumbers}
use Rattle.stk_walking.specs.declared.state.KeptCell.{KeptCell}
use Rattle.stk_walking.specs.Stands.{RowShows, RowMade, CellShows, CellsShow, CellsMade}

pub row_more : {V : Type 0} (f : IntKind → V → ℤ → Type 0) (kinds : ℕ → IntKind) (i : ℕ) (vs : List V) (xs : List ℤ) (v : V) (x : ℤ) → RowShows f kinds i vs xs → f (kinds (i + length vs)) v x → RowShows f kinds i (vs ++ v ∷ []) (xs ++ x ∷ [])
row_more f kinds i [] [] v x a h = (subst (λ n. f (kinds n) v x) (omega arith) h, tt)
row_more f kinds i [] (y ∷ xs) v x a h = absurd a
row_more f kinds i (w ∷ vs) [] v x a h = absurd a
row_more f kinds i (w ∷ vs) (y ∷ xs) v x a h = (a.0, row_more f kinds (i + 1) vs xs v x a.1 (subst (λ n. f (kinds n) v x) (omega arith) h))

pub row_made_more : {V : Type 0} (f : IntKind → V → Type 0) (kinds : ℕ → IntKind) (i : ℕ) (vs : List V) (v : V) → RowMade f kinds i vs → f (kinds (i + length vs)) v → RowMade f kinds i (vs ++ v ∷ [])
row_made_more f kinds i [] v a h = (subst (λ n. f (kinds n) v) (omega arith) h, tt)
row_made_more f kinds i (w ∷ vs) v a h = (a.0, row_made_more f kinds (i + 1) vs v a.1 (subst (λ n. f (kinds n) v) (omega arith) h))

pub cells_more : {V : Type 0} (f : IntKind → V → ℤ → Type 0) (kinds : ℕ → IntKind) (q : ℕ) (cs : List (KeptCell V)) (xs : KeptNumbers) (c : KeptCell V) (x : Option ℤ) → CellsShow f kinds q cs xs → CellShows f (kinds (q + length cs)) c x → CellsShow f kinds q (cs ++ c ∷ []) (xs ++ x ∷ [])
cells_more f kinds q [] [] c x a h = (subst (λ n. CellShows f (kinds n) c x) (omega arith) h, tt)
cells_more f kinds q [] (y ∷ xs) c x a h = absurd a
cells_more f kinds q (d ∷ cs) [] c x a h = absurd a
cells_more f kinds q (d ∷ cs) (y ∷ xs) c x a h = (a.0, cells_more f kinds (q + 1) cs xs c x a.1 (subst (λ n. CellShows f (kinds n) c x) (omega arith) h))

pub cells_made_more : {V : Type 0} (f : IntKind → V → Type 0) (kinds : ℕ → IntKind) (q : ℕ) (cs : List (KeptCell V)) (c : KeptCell V) → CellsMade f kinds q cs → f Int c.known → f (kinds (q + length cs)) c.number → CellsMade f kinds q (cs ++ c ∷ [])
cells_made_more f kinds q [] c a h k = (h, (subst (λ n. f (kinds n) c.number) (omega arith) k, tt))
cells_made_more f kinds q (d ∷ cs) c a h k = (a.0, (a.1.0, cells_made_more f kinds (q + 1) cs c a.1.1 h (subst (λ n. f (kinds n) c.number) (omega arith) k)))

pub one_longer : {A : Type 0} (n : ℕ) (x : A) → replicate n x ++ x ∷ [] ≡ replicate (n + 1) x
one_longer zero x = refl
one_longer (suc n) x = let e : suc (n + 1) ≡ suc n + 1 = omega arith in ap (λ z. x ∷ z) (one_longer n x) ∙ ap (λ k. replicate k x) e
