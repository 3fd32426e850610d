use Rattle.std.proofs.Common.{◌≡◌, ◌++◌, drop, map, List, length}
use Rattle.stk_tree.specs.View.{view_declarator, declarators}
use Rattle.stk_meaning.specs.Visits.{declared_by}
use Rattle.stk_meaning.specs.Worlds.{Normal}
use Rattle.stk_meaning.specs.Paths.{path_world}
use Rattle.stk_meaning.specs.Declarations.{declarators_run}
use Rattle.stk_guarded.specs.Standing.{Standing}
use Rattle.stk_guarded.specs.Statements.{Declares}
use Rattle.stk_walking.specs.declared.state.Event.{Event}
use Rattle.stk_walking.specs.StatementEvents.{declarators_events}
use Rattle.stk_walk_statements.specs.Walked.{Walked}
use Rattle.stk_spending.specs.Statements.{declarators_spent}
use Rattle.stk_walking.proofs.Costing.{SpentSoFar}
use Rattle.stk_walk_statements.proofs.declarations.declarators.Given as goal

-- what completes the rest completes the whole
abbrev pub invariant-loop-d : goal.invariant-loop-d
invariant-loop-d g l =
    (es : List Event) × (es ++ declarators_events (g.O.RunSetting.setting l.out) l.lasts (declarators (map view_declarator (drop l.d-index l.list))) ≡ declarators_events (g.O.RunSetting.setting l.out) l.lasts (declarators (map view_declarator l.list)))
    × Walked g.V.Values.serves g.V.Values.has_key g.V.Values.made g.V.Values.shows (g.O.RunSetting.setting l.out) es (λ m s t. (u : Standing) →
    Declares (declared_by (declarators (map view_declarator (drop l.d-index l.list)))) (declarators_run (g.O.RunSetting.setting l.out) (path_world (g.O.WalkSetting.under l.out m)) l.lasts (declarators (map view_declarator (drop l.d-index l.list))) t.numbers t.kept) Normal t u →
    Declares (declared_by (declarators (map view_declarator l.list))) (declarators_run (g.O.RunSetting.setting l.out) (path_world (g.O.WalkSetting.under l.out m)) l.lasts (declarators (map view_declarator l.list)) s.numbers s.kept) Normal s u) l.initial.values l.values l.initial.state l.state
    × SpentSoFar g.V.Values.cost (length (g.O.RunSetting.setting l.out).kept) (declarators_spent (g.O.RunSetting.setting l.out) l.lasts (declarators (map view_declarator l.list))) (declarators_spent (g.O.RunSetting.setting l.out) l.lasts (declarators (map view_declarator (drop l.d-index l.list)))) l.initial.values l.values (length l.initial.state.cells.items) (length l.state.cells.items)
