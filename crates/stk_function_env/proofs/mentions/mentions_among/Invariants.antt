use Rattle.std.proofs.Common.{◌≡◌, ◌++◌, drop, map}
use Rattle.stk_function_types.specs.Nodes.{typing_in}
use Rattle.stk_meaning.specs.Keys.{visit_mentions}
use Rattle.stk_function_types.specs.Visits.{marked_visit}
use Rattle.stk_function_types.specs.Gathered.{gathered}
use Rattle.stk_function_env.specs.Settings.{mention_in}
use Rattle.stk_function_env.proofs.mentions.mentions_among.Given as goal

abbrev pub invariant-loop-visit : goal.invariant-loop-visit
invariant-loop-visit l = map (mention_in l.types.bytes) l.out.items ++ gathered (visit_mentions (typing_in l.types)) (map marked_visit (drop l.visit-index l.visits)) ≡ gathered (visit_mentions (typing_in l.types)) (map marked_visit l.visits)
