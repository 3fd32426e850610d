use Rattle.std.proofs.Common.{◌≤◌, ◌+◌, ◌*◌, ℤ, List, Bool}
use Rattle.std.specs.Prelude.{if◌then◌else◌}
use Rattle.stk_ctype.specs.declared.kind.IntKind.TheVariants.{Int}
use Rattle.stk_tree.specs.View.{view_statement_form}
use Rattle.stk_meaning.specs.Changes.{assigned_in}
use Rattle.stk_meaning.specs.Operations.{bit}
use Rattle.stk_kinded.specs.Kinds.{register_kind}
use Rattle.stk_values.specs.Keeping.{Keeps}
use Rattle.stk_walking.specs.Stands.{RowShows, RowMade}
use Rattle.stk_walking.proofs.Resetting.{first_reset}
use Rattle.stk_walking.proofs.loop_registers.begin_registers.Given as goal

abbrev pub invariant-loop-at : goal.invariant-loop-at
invariant-loop-at g l =
    Keeps g.V.Values.serves g.V.Values.has_key g.V.Values.made g.V.Values.shows l.fn.values l.values
    × RowMade (g.V.Values.made l.values) (register_kind (g.O.RunSetting.setting l.fn.out)) 0 l.registers.items
    × ((m : List ℤ) (b : Bool) (xs : List ℤ) → g.V.Values.serves l.fn.values m → g.V.Values.shows l.fn.values m Int l.fn.guard (bit b) → RowShows (g.V.Values.shows l.fn.values m) (register_kind (g.O.RunSetting.setting l.fn.out)) 0 l.fn.registers.items xs → RowShows (g.V.Values.shows l.values m) (register_kind (g.O.RunSetting.setting l.fn.out)) 0 l.registers.items (if b then first_reset (g.O.WalkSetting.under l.fn.out m) l.fn.node l.at (assigned_in (g.O.RunSetting.setting l.fn.out) (view_statement_form l.fn.form)) xs else xs))
    × (g.V.Values.cost l.values ≤ g.V.Values.cost l.fn.values + 192 * l.at)
