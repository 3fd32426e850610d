use Rattle.std.proofs.Common.{◌≡◌, ◌||◌, Bool, ℤ, List, drop, map}
use Rattle.stk_ctype.specs.declared.kind.IntKind.TheVariants.{Int}
use Rattle.stk_tree.specs.View.{view_label, labels}
use Rattle.stk_meaning.specs.Operations.{bit}
use Rattle.stk_meaning.specs.Statements.{has_case}
use Rattle.stk_values.specs.Keeping.{Keeps}
use Rattle.stk_numbers.specs.Kinds.{width_of}
use Rattle.stk_spending.specs.Statements.{labels_spent}
use Rattle.stk_walking.proofs.Costing.{ChargedSoFar}
use Rattle.stk_walk_statements.proofs.choosing.has_case.Given as goal

-- what is found so far, or later
abbrev pub invariant-loop-label : goal.invariant-loop-label
invariant-loop-label g l =
    Keeps g.V.Values.serves g.V.Values.has_key g.V.Values.made g.V.Values.shows l.fn.values l.values
    × g.V.Values.made l.values Int l.found
    × ((m : List ℤ) (x : ℤ) → g.V.Values.serves l.fn.values m → g.V.Values.shows l.fn.values m l.kind l.fn.number x →
    (b : Bool) × g.V.Values.shows l.values m Int l.found (bit b) × ((b || has_case (g.O.RunSetting.setting l.fn.out).typing l.kind x (labels (map view_label (drop l.label-index l.list)))) ≡ has_case (g.O.RunSetting.setting l.fn.out).typing l.kind x (labels (map view_label l.list))))
    × ChargedSoFar (g.V.Values.cost l.fn.values) (g.V.Values.cost l.values) (labels_spent (labels (map view_label l.list)) (width_of l.kind)) (labels_spent (labels (map view_label (drop l.label-index l.list))) (width_of l.kind))
