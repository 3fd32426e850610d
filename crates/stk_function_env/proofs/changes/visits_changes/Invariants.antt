use Rattle.std.proofs.Common.{◌≡◌, ◌++◌, drop, map}
use Rattle.stk_function_types.specs.Visits.{marked_visit}
use Rattle.stk_function_types.specs.Gathered.{gathered}
use Rattle.stk_function_env.specs.Settings.{setting_in}
use Rattle.stk_function_env.specs.Changed.{visit_change_list}
use Rattle.stk_function_env.proofs.changes.visits_changes.Given as goal

abbrev pub invariant-loop-visit : goal.invariant-loop-visit
invariant-loop-visit l = l.out.items ++ gathered (visit_change_list (setting_in l.setting)) (map marked_visit (drop l.visit-index l.visits)) ≡ l.initial.out.items ++ gathered (visit_change_list (setting_in l.setting)) (map marked_visit l.visits)
