use Rattle.std.proofs.Common.{◌≡◌, ◌++◌, [], true, drop, map, List, ℕ, ℤ, Option, None, length}
use Rattle.stk_tree.specs.View.{view_part, parts, view_statement, statements, view_section, sections}
use Rattle.stk_meaning.specs.Visits.{parts_declare}
use Rattle.stk_meaning.specs.Paths.{path_world}
use Rattle.stk_meaning.specs.Statements.{parts_run, statements_run, sections_run}
use Rattle.stk_values.specs.Keeping.{Keeps}
use Rattle.stk_guarded.specs.Standing.{Standing}
use Rattle.stk_guarded.specs.Statements.{Flows}
use Rattle.stk_guarded.specs.Sections.{begins}
use Rattle.stk_walking.specs.declared.state.Event.{Event}
use Rattle.stk_walking.specs.Events.{events_in}
use Rattle.stk_walking.specs.Stands.{Stands, IsMade}
use Rattle.stk_walking.specs.StatementEvents.{parts_events, statements_events, sections_events}
use Rattle.stk_walk_statements.specs.Walked.{Walked, Stood}
use Rattle.stk_walk_statements.specs.Selected.{TestsShow}
use Rattle.stk_walk_statements.proofs.Leading.{LeadsOn}
use Rattle.stk_spending.specs.Statements.{parts_spent, statements_spent, sections_spent}
use Rattle.stk_walking.proofs.Costing.{SpentSoFar}
use Rattle.stk_walk_statements.proofs.statements.+statement.Given as goal

-- what completes the rest completes the whole
abbrev pub invariant-parts-loop-p : goal.invariant-parts-loop-p
invariant-parts-loop-p g l =
    (es : List Event) × (es ++ parts_events (g.O.RunSetting.setting l.out) (parts (map view_part (drop l.p-index l.list))) ≡ parts_events (g.O.RunSetting.setting l.out) (parts (map view_part l.list)))
    × Walked g.V.Values.serves g.V.Values.has_key g.V.Values.made g.V.Values.shows (g.O.RunSetting.setting l.out) es (λ m s t. (u : Standing) →
    Flows (parts_declare (parts (map view_part (drop l.p-index l.list)))) (parts_run (g.O.RunSetting.setting l.out) (path_world (g.O.WalkSetting.under l.out m)) (parts (map view_part (drop l.p-index l.list))) t.numbers t.kept) t u →
    Flows (parts_declare (parts (map view_part l.list))) (parts_run (g.O.RunSetting.setting l.out) (path_world (g.O.WalkSetting.under l.out m)) (parts (map view_part l.list)) s.numbers s.kept) s u) l.initial.values l.values l.initial.state l.state
    × SpentSoFar g.V.Values.cost (length (g.O.RunSetting.setting l.out).kept) (parts_spent (g.O.RunSetting.setting l.out) (parts (map view_part l.list))) (parts_spent (g.O.RunSetting.setting l.out) (parts (map view_part (drop l.p-index l.list)))) l.initial.values l.values (length l.initial.state.cells.items) (length l.state.cells.items)

abbrev pub invariant-statements-loop-s : goal.invariant-statements-loop-s
invariant-statements-loop-s g l =
    (es : List Event) × (es ++ statements_events (g.O.RunSetting.setting l.out) (statements (map view_statement (drop l.s-index l.list))) ≡ statements_events (g.O.RunSetting.setting l.out) (statements (map view_statement l.list)))
    × Walked g.V.Values.serves g.V.Values.has_key g.V.Values.made g.V.Values.shows (g.O.RunSetting.setting l.out) es (λ m s t. (u : Standing) →
    Flows [] (statements_run (g.O.RunSetting.setting l.out) (path_world (g.O.WalkSetting.under l.out m)) (statements (map view_statement (drop l.s-index l.list))) t.numbers t.kept) t u →
    Flows [] (statements_run (g.O.RunSetting.setting l.out) (path_world (g.O.WalkSetting.under l.out m)) (statements (map view_statement l.list)) s.numbers s.kept) s u) l.initial.values l.values l.initial.state l.state
    × SpentSoFar g.V.Values.cost (length (g.O.RunSetting.setting l.out).kept) (statements_spent (g.O.RunSetting.setting l.out) (statements (map view_statement l.list))) (statements_spent (g.O.RunSetting.setting l.out) (statements (map view_statement (drop l.s-index l.list)))) l.initial.values l.values (length l.initial.state.cells.items) (length l.state.cells.items)

-- the tests of the sections that are left lead on from where the walk stands
abbrev pub invariant-sections-loop-at : goal.invariant-sections-loop-at
invariant-sections-loop-at g l =
    (es : List Event) × (es ++ sections_events (g.O.RunSetting.setting l.out) (sections (map view_section (drop l.at l.list))) ≡ sections_events (g.O.RunSetting.setting l.out) (sections (map view_section l.list)))
    × IsMade (g.V.Values.made l.values) (g.O.RunSetting.setting l.out) l.state
    × (events_in l.state.steps.items ≡ events_in l.initial.state.steps.items ++ es)
    × Keeps g.V.Values.serves g.V.Values.has_key g.V.Values.made g.V.Values.shows l.initial.values l.values
    × ((m : List ℤ) (s : Standing) (goes_to : Option ℕ) → g.V.Values.serves l.initial.values m → TestsShow (g.V.Values.shows l.initial.values m) l.tests goes_to → (s.alive ≡ true → goes_to ≡ None) → Stands (g.V.Values.shows l.initial.values m) (g.O.RunSetting.setting l.out) l.initial.state s →
    Stood (g.V.Values.shows l.values m) (g.O.RunSetting.setting l.out) (λ t. LeadsOn (g.V.Values.shows l.initial.values m) (drop l.at l.tests) (λ n r k. sections_run (g.O.RunSetting.setting l.out) (path_world (g.O.WalkSetting.under l.out m)) (sections (map view_section (drop l.at l.list))) n r k)
    (λ n r k. sections_run (g.O.RunSetting.setting l.out) (path_world (g.O.WalkSetting.under l.out m)) (sections (map view_section l.list)) n r k) (begins s.alive goes_to) s t) l.state)
    × SpentSoFar g.V.Values.cost (length (g.O.RunSetting.setting l.out).kept) (sections_spent (g.O.RunSetting.setting l.out) (sections (map view_section l.list))) (sections_spent (g.O.RunSetting.setting l.out) (sections (map view_section (drop l.at l.list)))) l.initial.values l.values (length l.initial.state.cells.items) (length l.state.cells.items)
