use Rattle.std.proofs.Common.{◌≡◌, ◌++◌, drop, map}
use Rattle.stk_tree.specs.View.{view_statement, view_part, view_section, statements, parts, sections}
use Rattle.stk_function_env.specs.Settings.{setting_in}
use Rattle.stk_weights.specs.Events.{statements_events, parts_events, sections_events}
use Rattle.stk_weights.proofs.events.+statement_events.Given as goal

abbrev pub invariant-statements_events-loop-x : goal.invariant-statements_events-loop-x
invariant-statements_events-loop-x l = l.out.items ++ statements_events (setting_in l.setting) (statements (map view_statement (drop l.x-index l.list))) ≡ l.initial.out.items ++ statements_events (setting_in l.setting) (statements (map view_statement l.list))

abbrev pub invariant-parts_events-loop-x : goal.invariant-parts_events-loop-x
invariant-parts_events-loop-x l = l.out.items ++ parts_events (setting_in l.setting) (parts (map view_part (drop l.x-index l.list))) ≡ l.initial.out.items ++ parts_events (setting_in l.setting) (parts (map view_part l.list))

abbrev pub invariant-sections_events-loop-x : goal.invariant-sections_events-loop-x
invariant-sections_events-loop-x l = l.out.items ++ sections_events (setting_in l.setting) (sections (map view_section (drop l.x-index l.list))) ≡ l.initial.out.items ++ sections_events (setting_in l.setting) (sections (map view_section l.list))
