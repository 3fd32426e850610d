-- What a row that is known does to registers and kept numbers.
use Rattle.std.proofs.Common.{◌≡◌, ℕ, List, Option, Some, None, ℤ, refl, sym, ap, ◌∙◌}
use Rattle.std.specs.Option.{unwrap_or}
use Rattle.std.proofs.lemmas.Option.{none-some}
use Rattle.stk_tree.specs.Syntax.{StmtFormTree}
use Rattle.stk_meaning.specs.Places.{Setting}
use Rattle.stk_meaning.specs.Changes.{assigned_in, forgotten_in}
use Rattle.stk_meaning.specs.Keys.{KeyInfo}
use Rattle.stk_meaning.specs.Paths.{KeptNumbers, number_under, reset_all, forgotten}
use Rattle.stk_path_runs.specs.declared.loop_rows.LoopSlot.{LoopSlot}
use Rattle.stk_path_runs.specs.declared.loop_rows.LoopRow.{LoopRow}
use Rattle.stk_path_runs.specs.Rows.{slots_set, forgets_in, IsRowOf, row_at, Knows}
use Rattle.stk_path_runs.proofs.Rowed.{slots-reset}
use Rattle.stk_path_runs.proofs.Forgotten.{forgotten_alike}

some_one : {A : Type 0} {a b : A} → Some a ≡ Some b → a ≡ b
some_one {A} {a} {b} h = ap (λ o. unwrap_or o a) h

pub reset_by : (g : Setting) (keys : List KeyInfo) (rows : List LoopRow) (k : ℕ) (f : StmtFormTree) (row : LoopRow) (xs r : List ℤ) → Knows g keys rows k f → Some row ≡ row_at k rows → slots_set row.registers.items xs r ≡ reset_all (number_under keys xs) k (assigned_in g f) r
reset_by g keys rows k f row xs r h e =
    let same : row ≡ h.row = some_one (e ∙ h.found) in
    ap (λ (w : LoopRow). slots_set w.registers.items xs r) same ∙ ap (λ (ss : List LoopSlot). slots_set ss xs r) h.is.registers ∙ slots-reset keys xs k (assigned_in g f) r

pub forget_by : (g : Setting) (keys : List KeyInfo) (rows : List LoopRow) (k : ℕ) (f : StmtFormTree) (row : LoopRow) (kept : KeptNumbers) → Knows g keys rows k f → Some row ≡ row_at k rows → forgotten (forgets_in row) kept ≡ forgotten (forgotten_in g f) kept
forget_by g keys rows k f row kept h e =
    let same : row ≡ h.row = some_one (e ∙ h.found) in
    ap (λ (w : LoopRow). forgotten (forgets_in w) kept) same ∙ forgotten_alike (forgets_in h.row) (forgotten_in g f) 0 kept h.is.kept

pub none_known : {A : Type 0} (g : Setting) (keys : List KeyInfo) (rows : List LoopRow) (k : ℕ) (f : StmtFormTree) → Knows g keys rows k f → None ≡ row_at k rows → A
none_known g keys rows k f h e = absurd (none-some _ (e ∙ h.found))
