use Rattle.std.proofs.Common.{◌≡◌, ◌++◌, drop, map}
use Rattle.stk_function_types.specs.Nodes.{typing_in}
use Rattle.stk_meaning.specs.Lists.{visit_candidates}
use Rattle.stk_function_types.specs.Visits.{marked_visit}
use Rattle.stk_function_types.specs.Gathered.{gathered}
use Rattle.stk_cands.proofs.candidate_list.candidates_among.Given as goal

abbrev pub invariant-loop-visit : goal.invariant-loop-visit
invariant-loop-visit l = l.out.items ++ gathered (visit_candidates (typing_in l.types)) (map marked_visit (drop l.visit-index l.visits)) ≡ gathered (visit_candidates (typing_in l.types)) (map marked_visit l.visits)
