use Rattle.std.proofs.Common.{◌≡◌, ◌++◌, drop, map}
use Rattle.stk_meaning.specs.Keys.{visit_keys}
use Rattle.stk_function_types.specs.Visits.{marked_visit}
use Rattle.stk_function_types.specs.Gathered.{gathered}
use Rattle.stk_function_env.specs.Settings.{setting_in}
use Rattle.stk_function_env.specs.Infos.{info_in}
use Rattle.stk_function_env.proofs.keys.keys_among.Given as goal

abbrev pub invariant-loop-visit : goal.invariant-loop-visit
invariant-loop-visit l = map info_in l.out.items ++ gathered (visit_keys (setting_in l.setting)) (map marked_visit (drop l.visit-index l.visits)) ≡ map info_in l.initial.out.items ++ gathered (visit_keys (setting_in l.setting)) (map marked_visit l.visits)
