use Rattle.std.proofs.Common.{◌≡◌, List, ℤ, map, ap, ◌∙◌, subst, IfOk}
use Rattle.stk_tree.specs.View.{view_function}
use Rattle.stk_meaning.specs.Keys.{KeyInfo, keys_of}
use Rattle.stk_meaning.specs.Paths.{path}
use Rattle.stk_function_types.specs.Nodes.{typing_in}
use Rattle.stk_function_env.specs.Infos.{info_in}
use Rattle.stk_function_env.specs.Settings.{FunctionPlaces}
use Rattle.stk_wide_judge.proofs.Tracing.{words_stay}
use Rattle.stk_wide_judge.proofs.traces.trace_of.Goals as goal

pub returns : goal.returns
returns c valid =
    let p = c.args.function.now.tables.now.places in
    let ty = typing_in p.types in
    let f = view_function c.args.function.now.f.now in
    let own = c.requires in
    let keys : map info_in c.keys-keys.result.now ≡ keys_of ty p.without f = c.keys-keys.ensures ∙ (ap (λ (q : FunctionPlaces). q.keys) c.setting.ensures ∙ own.keys) in
    let numbers = c.as_slice-2.ensures.value ∙ words_stay (map info_in c.keys-keys.result.now) (keys_of ty p.without f) c.in_ok-words.words.items c.as_slice.result.now c.args.start.now.numbers c.in_ok-words.ensures keys c.as_slice.ensures valid.covers in
    subst (λ (xs : List ℤ). IfOk c.path_run.result (λ entries. entries.items ≡ path ty p.without f xs)) numbers (c.path_run.ensures ty p.without own.setting own.keys)
