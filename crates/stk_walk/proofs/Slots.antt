-- The rows of loops, and their slots.
use Rattle.std.proofs.Common.{ℕ, zero, suc, ◌≡◌, ◌∙◌, ◌<◌, List, [], ◌∷◌, length, get_or, refl, sym, ap, subst, Some}
use Rattle.std.specs.Prelude.{slice_get}
use Rattle.std.specs.Option.{option_map}
use Rattle.std.proofs.lemmas.Option.{same_Some, slice_get_read}
use Rattle.stk_tree.specs.Syntax.{StmtFormTree}
use Rattle.stk_meaning.specs.Places.{Setting}
use Rattle.stk_meaning.specs.Changes.{assigned_in}
use Rattle.stk_meaning.specs.Keys.{KeyInfo}
use Rattle.stk_path_runs.specs.declared.loop_rows.LoopSlot.{LoopSlot}
use Rattle.stk_path_runs.specs.declared.loop_rows.LoopRow.{LoopRow}
use Rattle.stk_path_runs.specs.Rows.{loop_slots, IsRowOf, row_at, Knows}

-- the row that is found is that of the loop
pub row_known : (g : Setting) (keys : List KeyInfo) (rows : List LoopRow) (k : ℕ) (f : StmtFormTree) (row : LoopRow) → Knows g keys rows k f → Some row ≡ row_at k rows → IsRowOf g keys k f row
row_known g keys rows k f row h e = let same : h.row ≡ row = same_Some h.row row (sym (e ∙ h.found)) in subst (λ (w : LoopRow). IsRowOf g keys k f w) same h.is

as_many : (keys : List KeyInfo) (k : ℕ) (js : List ℕ) → length (loop_slots keys k js) ≡ length js
as_many keys k [] = refl
as_many keys k (j ∷ js) = ap suc (as_many keys k js)

-- a row has as many slots as its loop sets registers
pub slots_counted : (g : Setting) (keys : List KeyInfo) (k : ℕ) (f : StmtFormTree) (row : LoopRow) → IsRowOf g keys k f row → length row.registers.items ≡ length (assigned_in g f)
slots_counted g keys k f row is = ap length is.registers ∙ as_many keys k (assigned_in g f)

abbrev register_of : LoopSlot → ℕ
register_of s = s.register

same_register : (keys : List KeyInfo) (k : ℕ) (js : List ℕ) (at : ℕ) → slice_get js at ≡ option_map register_of (slice_get (loop_slots keys k js) at)
same_register keys k [] at = refl
same_register keys k (j ∷ js) zero = refl
same_register keys k (j ∷ js) (suc at) = same_register keys k js at

-- and in each slot one of these, in order
pub slot_there : (g : Setting) (keys : List KeyInfo) (k : ℕ) (f : StmtFormTree) (row : LoopRow) (at : ℕ) (slot : LoopSlot) → IsRowOf g keys k f row → at < length (assigned_in g f) → slot ≡ get_or row.registers.items at slot → slice_get (assigned_in g f) at ≡ Some slot.register
slot_there g keys k f row at slot is within here =
    let there : slice_get row.registers.items at ≡ Some slot = slice_get_read row.registers.items (length (assigned_in g f)) at slot (sym (slots_counted g keys k f row is)) within here in
    same_register keys k (assigned_in g f) at ∙ ap (λ (ss : List LoopSlot). option_map register_of (slice_get ss at)) (sym is.registers) ∙ ap (option_map register_of) there
