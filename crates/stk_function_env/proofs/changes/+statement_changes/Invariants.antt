use Rattle.std.proofs.Common.{◌≡◌, ◌++◌, drop, map}
use Rattle.stk_tree.specs.View.{view_statement, view_part, view_section, statements, parts, sections}
use Rattle.stk_function_types.specs.Nodes.{typing_in}
use Rattle.stk_meaning.specs.Visits.{statements_visits, parts_visits, sections_visits}
use Rattle.stk_function_env.specs.Settings.{setting_in}
use Rattle.stk_function_env.specs.Changed.{change_list}
use Rattle.stk_function_env.proofs.changes.+statement_changes.Given as goal

abbrev pub invariant-statements_changes-loop-x : goal.invariant-statements_changes-loop-x
invariant-statements_changes-loop-x l = l.out.items ++ change_list (setting_in l.setting) (statements_visits (typing_in l.setting.types) (statements (map view_statement (drop l.x-index l.list)))) ≡ l.initial.out.items ++ change_list (setting_in l.setting) (statements_visits (typing_in l.setting.types) (statements (map view_statement l.list)))

abbrev pub invariant-parts_changes-loop-x : goal.invariant-parts_changes-loop-x
invariant-parts_changes-loop-x l = l.out.items ++ change_list (setting_in l.setting) (parts_visits (typing_in l.setting.types) (parts (map view_part (drop l.x-index l.list)))) ≡ l.initial.out.items ++ change_list (setting_in l.setting) (parts_visits (typing_in l.setting.types) (parts (map view_part l.list)))

abbrev pub invariant-sections_changes-loop-x : goal.invariant-sections_changes-loop-x
invariant-sections_changes-loop-x l = l.out.items ++ change_list (setting_in l.setting) (sections_visits (typing_in l.setting.types) (sections (map view_section (drop l.x-index l.list)))) ≡ l.initial.out.items ++ change_list (setting_in l.setting) (sections_visits (typing_in l.setting.types) (sections (map view_section l.list)))
