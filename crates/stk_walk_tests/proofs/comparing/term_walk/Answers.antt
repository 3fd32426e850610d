use Rattle.std.proofs.Common.{◌<◌, ◌^◌, List, length, sym, ap, subst, ◌∙◌}
use Rattle.stk_tree.specs.View.{view_function}
use Rattle.stk_numbers.specs.declared.conditions.Candidate.{Candidate}
use Rattle.stk_function_env.specs.Settings.{FunctionPlaces}
use Rattle.stk_goals.proofs.Made.{kinds_made, keys_there}
use Rattle.stk_walk_tests.proofs.comparing.term_walk.Goals as goal

pub walk_function-requires-clause-few : goal.walk_function-requires-clause-few
walk_function-requires-clause-few c = subst (λ (cs : List Candidate). length cs < 2 ^ 32) (sym c.requires.candidates) c.requires.searched.few

pub walk_function-requires-clause-keys : goal.walk_function-requires-clause-keys
walk_function-requires-clause-keys c =
    let t = c.args.searched.now.tables.now in
    let f = view_function c.args.searched.now.function.now in
    let shown = c.keys.ensures ∙ ap (λ (p : FunctionPlaces). p.keys) c.setting.ensures in
    let same = kinds_made t f c.requires.searched c.keys.result.now c.in_ok-kinds.kinds.items shown c.in_ok-kinds.ensures in
    keys_there t f c.requires.searched c.in_ok-symbols.symbols c.as_slice.result.now (c.as_slice.ensures.value ∙ same) c.in_ok-symbols.ensures.kinds c.in_ok-symbols.ensures.terms
