use Rattle.std.proofs.Common.{◌≡◌, ◌<◌, ◌^◌, List, Err, length, rules, sym, ap, subst, ◌∙◌}
use Rattle.stk_tree.specs.View.{view_function}
use Rattle.stk_numbers.specs.declared.conditions.Candidate.{Candidate}
use Rattle.stk_meaning.specs.Lists.{candidates}
use Rattle.stk_function_types.specs.Units.{TypedUnit}
use Rattle.stk_function_types.specs.Nodes.{typing_in}
use Rattle.stk_function_env.specs.Settings.{FunctionPlaces}
use Rattle.stk_replaying.specs.Replaying.{ran_in}
use Rattle.stk_replay_input.specs.Causes.{unreplayed_of}
use Rattle.stk_replay_input.proofs.Answered.{few_in, hand_in, answers_none, answers_text}
use Rattle.stk_replay_input.proofs.named.execution_text.Goals as goal

pub replay_of-requires-clause-few : goal.replay_of-requires-clause-few
replay_of-requires-clause-few c =
    let p = c.args.tables.now.places in
    let f = view_function c.args.f.now in
    let types = c.types-types.ensures ∙ ap (λ (x : FunctionPlaces). x.types) c.setting.ensures in
    let listed = c.as_slice.ensures.value ∙ c.in_ok-list.ensures ∙ ap (λ (t : TypedUnit). candidates (typing_in t) f) types in
    subst (λ (cs : List Candidate). length cs < 2 ^ 32) (sym listed) (few_in (typing_in p.types) p.without f c.requires.light)

pub returns-in_err-replayed : goal.returns-in_err-replayed
returns-in_err-replayed c =
    let p = c.args.tables.now.places in
    let f = view_function c.args.f.now in
    let run = ran_in (typing_in p.types) p.without f c.args.execution.now in
    let same : c.from_residual-in_err-replayed.result ≡ Err (unreplayed_of c.in_err-replayed.field-0.0) = search rules in
    answers_none (hand_in p f) run c.in_err-replayed.field-0.0 c.from_residual-in_err-replayed.result same
    (λ e. c.in_err-replayed.ensures.long (ap Err e))

pub returns : goal.returns
returns c =
    let p = c.args.tables.now.places in
    let f = view_function c.args.f.now in
    let t = c.types-types.result.now in
    let run = ran_in (typing_in p.types) p.without f c.args.execution.now in
    let types = c.types-types.ensures ∙ ap (λ (x : FunctionPlaces). x.types) c.setting.ensures in
    let shown = c.in_ok-replayed.ensures in
    answers_text p f t run c.as_slice-3.result.now c.in_ok-replayed.replayed.trace c.in_ok-replayed.replayed.end c.in_ok-text.text.items types (c.as_slice-3.ensures.value ∙ c.in_ok-list.ensures) shown.trace shown.end shown.fits c.in_ok-text.ensures
