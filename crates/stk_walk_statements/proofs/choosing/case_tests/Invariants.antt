use Rattle.std.proofs.Common.{◌≡◌, ◌&&◌, Bool, ℤ, List, length, drop, map}
use Rattle.stk_ctype.specs.declared.kind.IntKind.TheVariants.{Int}
use Rattle.stk_tree.specs.View.{view_section, sections}
use Rattle.stk_meaning.specs.Operations.{bit}
use Rattle.stk_meaning.specs.Statements.{has_case, sections_before}
use Rattle.stk_values.specs.Keeping.{Keeps}
use Rattle.stk_walk_statements.specs.Selected.{TestsMade, TestsLead, goes_if, is_none}
use Rattle.stk_numbers.specs.Kinds.{width_of}
use Rattle.stk_spending.specs.Statements.{cases_spent}
use Rattle.stk_walking.proofs.Costing.{ChargedSoFar}
use Rattle.stk_walk_statements.proofs.choosing.case_tests.Given as goal

-- the tests so far, and where control goes that goes to none of their sections
abbrev pub invariant-loop-x : goal.invariant-loop-x
invariant-loop-x g l =
    Keeps g.V.Values.serves g.V.Values.has_key g.V.Values.made g.V.Values.shows l.fn.values l.values
    × g.V.Values.made l.values Int l.left
    × TestsMade (g.V.Values.made l.values) l.tests.items
    × (length l.tests.items ≡ l.x-index)
    × ((m : List ℤ) (x : ℤ) (a : Bool) → g.V.Values.serves l.fn.values m → g.V.Values.shows l.fn.values m l.kind l.fn.number x → g.V.Values.shows l.fn.values m Int l.fn.guard (bit a) →
    (b : Bool) × g.V.Values.shows l.values m Int l.left (bit b)
    × TestsLead (g.V.Values.shows l.values m) l.tests.items (goes_if a (sections_before (has_case (g.O.RunSetting.setting l.fn.out).typing l.kind x) (sections (map view_section l.list)))) (goes_if b (sections_before (has_case (g.O.RunSetting.setting l.fn.out).typing l.kind x) (sections (map view_section (drop l.x-index l.list)))))
    × ((b && is_none (sections_before (has_case (g.O.RunSetting.setting l.fn.out).typing l.kind x) (sections (map view_section (drop l.x-index l.list))))) ≡ (a && is_none (sections_before (has_case (g.O.RunSetting.setting l.fn.out).typing l.kind x) (sections (map view_section l.list))))))
    × ChargedSoFar (g.V.Values.cost l.fn.values) (g.V.Values.cost l.values) (cases_spent (sections (map view_section l.list)) (width_of l.kind)) (cases_spent (sections (map view_section (drop l.x-index l.list))) (width_of l.kind))
