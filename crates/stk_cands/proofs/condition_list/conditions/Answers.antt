use Rattle.std.proofs.Common.{map, ap, ◌∙◌}
use Rattle.stk_tree.specs.View.{view_function}
use Rattle.stk_function_types.specs.Nodes.{typing_in}
use Rattle.stk_meaning.specs.Keys.{function_visits}
use Rattle.stk_meaning.specs.Lists.{visit_conditions}
use Rattle.stk_function_types.specs.Visits.{marked_visit}
use Rattle.stk_function_types.specs.Gathered.{gathered}
use Rattle.stk_function_types.proofs.Gathering.{gathered-marked_visits}
use Rattle.stk_cands.proofs.condition_list.conditions.Goals as goal

pub returns : goal.returns
returns c =
    c.in_ok-out.ensures ∙ ap (λ visits. gathered (visit_conditions (typing_in c.args.types.now) c.args.without) (map marked_visit visits)) c.as_slice.ensures.value ∙ ap (gathered (visit_conditions (typing_in c.args.types.now) c.args.without)) c.in_ok-visits.ensures ∙ gathered-marked_visits (visit_conditions (typing_in c.args.types.now) c.args.without) (function_visits (typing_in c.args.types.now) (view_function c.args.f.now))
