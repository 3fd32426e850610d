use Rattle.std.proofs.Common.{sym, ap, ◌∙◌}
use Rattle.stk_tree.specs.View.{view_function}
use Rattle.stk_meaning.specs.Lists.{candidates}
use Rattle.stk_function_types.specs.Units.{TypedUnit}
use Rattle.stk_function_types.specs.Nodes.{typing_in}
use Rattle.stk_function_env.specs.Settings.{FunctionPlaces}
use Rattle.stk_walk_tests.proofs.Searching.{searched}
use Rattle.stk_walk_tests.proofs.functions.visit_function.Goals as goal

pub visit-requires-clause-searched : goal.visit-requires-clause-searched
visit-requires-clause-searched g c =
    let t = c.in_ok-tables in
    searched (view_function c.args.f.now) t.tables c.args.setting.now t.ensures.places c.requires.of (t.ensures.loops c.requires.numbered) c.requires.typed c.requires.light

pub visit-requires-clause-candidates : goal.visit-requires-clause-candidates
visit-requires-clause-candidates g c =
    let f = view_function c.args.f.now in
    c.as_slice.ensures.value
    ∙ c.in_ok-list.ensures
    ∙ ap (λ (t : TypedUnit). candidates (typing_in t) f) c.types.ensures
    ∙ ap (λ (p : FunctionPlaces). candidates (typing_in p.types) f) (sym c.in_ok-tables.ensures.places)
