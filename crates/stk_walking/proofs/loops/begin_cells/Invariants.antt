use Rattle.std.proofs.Common.{◌≡◌, ◌≤◌, ◌+◌, ◌*◌, ℤ, ℕ, List, Bool, not, length}
use Rattle.stk_ctype.specs.declared.kind.IntKind.{IntKind}
use Rattle.stk_ctype.specs.declared.kind.IntKind.TheVariants.{Int}
use Rattle.stk_tree.specs.View.{view_statement_form}
use Rattle.stk_meaning.specs.Changes.{forgotten_in}
use Rattle.stk_meaning.specs.Operations.{bit}
use Rattle.stk_meaning.specs.Paths.{KeptNumbers}
use Rattle.stk_values.specs.Keeping.{Keeps}
use Rattle.stk_walking.specs.Stands.{CellsShow, CellsMade}
use Rattle.stk_walking.proofs.Removing.{first_removed}
use Rattle.stk_walking.proofs.loops.begin_cells.Given as goal

abbrev pub invariant-loop-place : goal.invariant-loop-place
invariant-loop-place g l =
    (length l.cells.items ≡ length l.fn.cells.items)
    × Keeps g.V.Values.serves g.V.Values.has_key g.V.Values.made g.V.Values.shows l.fn.values l.values
    × g.V.Values.made l.values Int l.stays
    × ((m : List ℤ) (b : Bool) → g.V.Values.serves l.fn.values m → g.V.Values.shows l.fn.values m Int l.fn.guard (bit b) → g.V.Values.shows l.values m Int l.stays (bit (not b)))
    × ((row : ℕ → IntKind) → CellsMade (g.V.Values.made l.fn.values) row 0 l.fn.cells.items → CellsMade (g.V.Values.made l.values) row 0 l.cells.items)
    × ((m : List ℤ) (row : ℕ → IntKind) (b : Bool) (kept : KeptNumbers) → g.V.Values.serves l.fn.values m → g.V.Values.shows l.fn.values m Int l.fn.guard (bit b) → CellsShow (g.V.Values.shows l.fn.values m) row 0 l.fn.cells.items kept → CellsShow (g.V.Values.shows l.values m) row 0 l.cells.items (first_removed l.place 0 b (forgotten_in (g.O.RunSetting.setting l.fn.out) (view_statement_form l.fn.form)) kept))
    × (g.V.Values.cost l.values ≤ g.V.Values.cost l.fn.values + 3 * l.place)
