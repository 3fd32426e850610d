use Rattle.std.proofs.Common.{◌≤◌, List, map, sym, subst, ◌∙◌}
use Rattle.stk_tree.specs.View.{view_function}
use Rattle.stk_meaning.specs.Weights.{weight, most_weight}
use Rattle.stk_function_types.specs.Nodes.{typing_in}
use Rattle.stk_function_env.specs.Infos.{info_in}
use Rattle.stk_function_env.specs.Settings.{FunctionPlaces}
use Rattle.stk_units.proofs.Measures.{tables_of}
use Rattle.stk_replay_input.proofs.ScriptRuns.{was_read, as_read, names_none, answers_script}
use Rattle.stk_replay_input.proofs.named.function_replay.Goals as goal

pub returns-then-not-branch : goal.returns-then-not-branch
returns-then-not-branch c =
    let p = c.args.setting.now in
    let f = view_function c.args.f.now in
    let script = c.args.script.now in
    let numbers = c.in_ok-numbers.numbers.items in
    let read = was_read p f script c.as_slice.result.now numbers c.requires.of c.as_slice.ensures c.in_ok-numbers.ensures in
    let same = as_read p (map info_in c.keys.result.now) numbers c.as_slice-2.result.now c.in_ok-words.words.items c.as_slice-3.result.now c.in_ok-numbers.ensures.1 c.keys.ensures c.as_slice-2.ensures.value c.in_ok-words.ensures c.as_slice-3.ensures.value in
    names_none p c.in_ok-tables.tables.places f c.in_ok-tables.ensures.places script numbers c.as_slice-3.result.now same read c.in_ok-may_start.field-0 c.as_slice-4.result.now c.as_slice-4.ensures c.in_ok-may_start.ensures c.if-not-branch.true

pub execution_text-requires-clause-tables : goal.execution_text-requires-clause-tables
execution_text-requires-clause-tables c =
    tables_of (view_function c.args.f.now) c.in_ok-tables.tables c.args.setting.now c.in_ok-tables.ensures.places c.requires.of (c.in_ok-tables.ensures.loops c.requires.numbered)

pub execution_text-requires-clause-light : goal.execution_text-requires-clause-light
execution_text-requires-clause-light c =
    subst (λ (x : FunctionPlaces). weight (typing_in x.types) x.without (view_function c.args.f.now) ≤ most_weight) (sym c.in_ok-tables.ensures.places) c.requires.light

pub returns : goal.returns
returns c =
    let p = c.args.setting.now in
    let f = view_function c.args.f.now in
    let script = c.args.script.now in
    let numbers = c.in_ok-numbers.numbers.items in
    let read = was_read p f script c.as_slice.result.now numbers c.requires.of c.as_slice.ensures c.in_ok-numbers.ensures in
    let covers = c.in_ok-numbers.ensures.1 in
    let same = as_read p (map info_in c.keys.result.now) numbers c.as_slice-2.result.now c.in_ok-words.words.items c.as_slice-3.result.now covers c.keys.ensures c.as_slice-2.ensures.value c.in_ok-words.ensures c.as_slice-3.ensures.value in
    let known = as_read p (map info_in c.keys.result.now) numbers c.as_slice-2.result.now c.in_ok-words.words.items c.as_slice-5.result.now covers c.keys.ensures c.as_slice-2.ensures.value c.in_ok-words.ensures c.as_slice-5.ensures.value in
    answers_script p c.in_ok-tables.tables.places f c.in_ok-tables.ensures.places script numbers c.as_slice-3.result.now same read c.in_ok-may_start.field-0 c.as_slice-4.result.now c.as_slice-4.ensures c.in_ok-may_start.ensures c.if-not-branch.false
    c.as_slice-6.result.now c.as_slice-6.ensures c.as_slice-5.result.now known c.execution_text.result c.execution_text.ensures
