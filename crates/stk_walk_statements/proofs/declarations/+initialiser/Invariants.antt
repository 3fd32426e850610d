use Rattle.std.proofs.Common.{◌≡◌, ◌++◌, drop, map, List, length}
use Rattle.stk_tree.specs.View.{view_item, items}
use Rattle.stk_meaning.specs.Worlds.{Normal}
use Rattle.stk_meaning.specs.Paths.{path_world}
use Rattle.stk_meaning.specs.Declarations.{items_run}
use Rattle.stk_guarded.specs.Standing.{Standing, Goes}
use Rattle.stk_walking.specs.declared.state.Event.{Event}
use Rattle.stk_walking.specs.StatementEvents.{items_events}
use Rattle.stk_walk_statements.specs.Walked.{Walked}
use Rattle.stk_spending.specs.Statements.{items_spent}
use Rattle.stk_walking.proofs.Costing.{SpentSoFar}
use Rattle.stk_walk_statements.proofs.declarations.+initialiser.Given as goal

-- what completes the rest completes the whole
abbrev pub invariant-items-loop-x : goal.invariant-items-loop-x
invariant-items-loop-x g l =
    (es : List Event) × (es ++ items_events (g.O.RunSetting.setting l.out) (items (map view_item (drop l.x-index l.list))) ≡ items_events (g.O.RunSetting.setting l.out) (items (map view_item l.list)))
    × Walked g.V.Values.serves g.V.Values.has_key g.V.Values.made g.V.Values.shows (g.O.RunSetting.setting l.out) es (λ m s t. (u : Standing) →
    Goes (items_run (g.O.RunSetting.setting l.out) (path_world (g.O.WalkSetting.under l.out m)) (items (map view_item (drop l.x-index l.list))) t.numbers t.kept) Normal t u →
    Goes (items_run (g.O.RunSetting.setting l.out) (path_world (g.O.WalkSetting.under l.out m)) (items (map view_item l.list)) s.numbers s.kept) Normal s u) l.initial.values l.values l.initial.state l.state
    × SpentSoFar g.V.Values.cost (length (g.O.RunSetting.setting l.out).kept) (items_spent (g.O.RunSetting.setting l.out) (items (map view_item l.list))) (items_spent (g.O.RunSetting.setting l.out) (items (map view_item (drop l.x-index l.list)))) l.initial.values l.values (length l.initial.state.cells.items) (length l.state.cells.items)
