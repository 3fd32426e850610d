use Rattle.std.proofs.Common.{◌<◌, ◌^◌, List, length, sym, ap, subst, ◌∙◌, arith}
use Rattle.std.proofs.lemmas.Option.{slice_get-get_or}
use Rattle.stk_tree.specs.View.{view_function}
use Rattle.stk_numbers.specs.declared.conditions.Candidate.{Candidate}
use Rattle.stk_meaning.specs.Lists.{candidates}
use Rattle.stk_function_types.specs.Nodes.{typing_in}
use Rattle.stk_function_env.specs.Settings.{FunctionPlaces}
use Rattle.stk_query_scripts.proofs.Scripted.{searched, few_places, script_there}
use Rattle.stk_query_scripts.proofs.scripts.candidate_script.Goals as goal

pub overflow_cast-query : goal.overflow_cast-query
overflow_cast-query c =
    let s = searched (view_function c.args.f.now) c.in_ok-tables.tables c.args.setting.now c.in_ok-tables.ensures.places c.requires.of (c.in_ok-tables.ensures.loops c.requires.numbered) c.requires.typed c.requires.light in
    omega (arith, c.requires.within, ap length c.requires.candidates, few_places (view_function c.args.f.now) c.in_ok-tables.tables c.args.setting.now c.in_ok-tables.ensures.places s)

pub query_script-requires-clause-searched : goal.query_script-requires-clause-searched
query_script-requires-clause-searched c = searched (view_function c.args.f.now) c.in_ok-tables.tables c.args.setting.now c.in_ok-tables.ensures.places c.requires.of (c.in_ok-tables.ensures.loops c.requires.numbered) c.requires.typed c.requires.light

pub query_script-requires-clause-candidates : goal.query_script-requires-clause-candidates
query_script-requires-clause-candidates c = c.requires.candidates ∙ ap (λ (x : FunctionPlaces). candidates (typing_in x.types) (view_function c.args.f.now)) (sym c.in_ok-tables.ensures.places)

pub query_script-requires-clause-at : goal.query_script-requires-clause-at
query_script-requires-clause-at c = slice_get-get_or c.args.list.now c.args.at _ c.requires.within

pub returns : goal.returns
returns c = script_there (view_function c.args.f.now) c.args.setting.now c.in_ok-tables.tables.places c.in_ok-tables.ensures.places c.args.set c.args.at _ c.in_ok-text.text.items c.args.list.now c.requires.candidates (slice_get-get_or c.args.list.now c.args.at _ c.requires.within) (rw c.as_slice.ensures.value at c.in_ok-text.ensures) c.in_ok-all.ensures
