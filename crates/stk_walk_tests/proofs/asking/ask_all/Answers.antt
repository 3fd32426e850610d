use Rattle.std.proofs.Common.{◌<◌, ◌^◌, List, length, sym, ap, subst, ◌∙◌}
use Rattle.stk_tree.specs.View.{view_function}
use Rattle.stk_tree.specs.declared.unit.Function.{Function}
use Rattle.stk_numbers.specs.declared.conditions.Candidate.{Candidate}
use Rattle.stk_meaning.specs.Lists.{candidates}
use Rattle.stk_function_types.specs.Nodes.{typing_in}
use Rattle.stk_path_runs.specs.Rows.{Tables}
use Rattle.stk_walk_tests.proofs.asking.ask_all.Goals as goal

pub ask_each-requires-clause-candidates : goal.ask_each-requires-clause-candidates
ask_each-requires-clause-candidates g c =
    c.requires.candidates
    ∙ ap (λ (t : Tables). candidates (typing_in t.places.types) (view_function c.args.searched.now.function.now)) (sym c.in_ok-goals.ensures.tables)
    ∙ ap (λ (f : Function). candidates (typing_in c.in_ok-goals.goals.tables.places.types) (view_function f)) (sym c.in_ok-goals.ensures.function)

pub ask_each-requires-clause-few : goal.ask_each-requires-clause-few
ask_each-requires-clause-few g c = subst (λ (cs : List Candidate). length cs < 2 ^ 32) (sym c.requires.candidates) c.requires.searched.few
