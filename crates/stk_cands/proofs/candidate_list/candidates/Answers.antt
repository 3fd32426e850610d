use Rattle.std.proofs.Common.{map, ap, ◌∙◌}
use Rattle.stk_tree.specs.View.{view_function}
use Rattle.stk_function_types.specs.Nodes.{typing_in}
use Rattle.stk_meaning.specs.Keys.{function_visits}
use Rattle.stk_meaning.specs.Lists.{visit_candidates}
use Rattle.stk_function_types.specs.Visits.{marked_visit}
use Rattle.stk_function_types.specs.Gathered.{gathered}
use Rattle.stk_function_types.proofs.Gathering.{gathered-marked_visits}
use Rattle.stk_cands.proofs.candidate_list.candidates.Goals as goal

pub returns : goal.returns
returns c =
    c.in_ok-out.ensures ∙ ap (λ visits. gathered (visit_candidates (typing_in c.args.types.now)) (map marked_visit visits)) c.as_slice.ensures.value ∙ ap (gathered (visit_candidates (typing_in c.args.types.now))) c.in_ok-visits.ensures ∙ gathered-marked_visits (visit_candidates (typing_in c.args.types.now)) (function_visits (typing_in c.args.types.now) (view_function c.args.f.now))
