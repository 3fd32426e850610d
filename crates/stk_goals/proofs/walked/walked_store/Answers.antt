use Rattle.std.proofs.Common.{◌<◌, ◌^◌, List, length, sym, ap, subst, ◌∙◌}
use Rattle.stk_tree.specs.View.{view_function}
use Rattle.stk_numbers.specs.declared.conditions.Candidate.{Candidate}
use Rattle.stk_function_env.specs.Settings.{FunctionPlaces}
use Rattle.stk_function_types.specs.Nodes.{typing_in}
use Rattle.stk_goals.specs.Goals.{AreGoalsOf}
use Rattle.stk_goals.proofs.Made.{kinds_made, keys_there, goals_made}
use Rattle.stk_goals.proofs.walked.walked_store.Goals as goal

pub walk_function-requires-clause-few : goal.walk_function-requires-clause-few
walk_function-requires-clause-few c = subst (λ (cs : List Candidate). length cs < 2 ^ 32) (sym c.requires.candidates) c.requires.searched.few

pub walk_function-requires-clause-keys : goal.walk_function-requires-clause-keys
walk_function-requires-clause-keys c =
    let t = c.args.tables.now in
    let f = view_function c.args.function.now in
    let shown = c.keys.ensures ∙ ap (λ (p : FunctionPlaces). p.keys) c.setting.ensures in
    let same = kinds_made t f c.requires.searched c.keys.result.now c.in_ok-kinds.kinds.items shown c.in_ok-kinds.ensures in
    keys_there t f c.requires.searched c.in_ok-symbols.symbols c.as_slice.result.now (c.as_slice.ensures.value ∙ same) c.in_ok-symbols.ensures.kinds c.in_ok-symbols.ensures.terms

pub returns-clause-kinds : goal.returns-clause-kinds
returns-clause-kinds c =
    let t = c.args.tables.now in
    let f = view_function c.args.function.now in
    let shown = c.keys.ensures ∙ ap (λ (p : FunctionPlaces). p.keys) c.setting.ensures in
    kinds_made t f c.requires.searched c.keys.result.now c.in_ok-kinds.kinds.items shown c.in_ok-kinds.ensures

pub returns-clause-goals : goal.returns-clause-goals
returns-clause-goals c =
    let t = c.args.tables.now in
    let f = view_function c.args.function.now in
    let w = c.in_ok-walked.ensures in
    let now = c.walk_function.new.values in
    let shown = c.keys.ensures ∙ ap (λ (p : FunctionPlaces). p.keys) c.setting.ensures in
    let same = kinds_made t f c.requires.searched c.keys.result.now c.in_ok-kinds.kinds.items shown c.in_ok-kinds.ensures in
    subst (AreGoalsOf (typing_in t.places.types) t.places.without f now) (sym c.in_ok-walk.ensures)
    (goals_made t f c.requires.searched c.in_ok-symbols.symbols c.as_slice.result.now (c.as_slice.ensures.value ∙ same) c.in_ok-symbols.ensures.kinds c.in_ok-symbols.ensures.terms now c.in_ok-walked.walked
    (record { made = record { valid = w.tests.0; steps = w.tests.1 }; valid = w.valid; steps = w.steps; once = w.once; keeps = w.keeps }) w.listed w.cost)
