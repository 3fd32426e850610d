use Rattle.std.proofs.Common.{length, sym, ap, ◌∙◌, arith}
use Rattle.std.proofs.lemmas.Option.{slice_get_within}
use Rattle.stk_tree.specs.View.{view_function}
use Rattle.stk_meaning.specs.Typings.{Typing}
use Rattle.stk_meaning.specs.Lists.{candidates}
use Rattle.stk_source_audit.proofs.Tabled.{judged_tables, searched_function, few_candidates_there}
use Rattle.stk_source_audit.proofs.formulas.formula_of.Goals as goal

pub overflow_cast-query : goal.overflow_cast-query
overflow_cast-query c =
    let j = c.args.judged.now in
    let f = view_function j.function.now in
    let within = slice_get_within c.args.candidates.now c.position_of.result c.args.candidate c.position_of.ensures in
    omega (arith, within, ap length c.requires.candidates, few_candidates_there j.bytes.now j.without j.names.now j.unit.now f c.requires.judged)

pub query_clauses-requires-clause-searched : goal.query_clauses-requires-clause-searched
query_clauses-requires-clause-searched c =
    let j = c.args.judged.now in
    let f = view_function j.function.now in
    let made = c.in_ok-setting.ensures in
    let tables = judged_tables j.bytes.now j.without j.names.now j.unit.now f c.requires.judged c.in_ok-types.types c.in_ok-setting.setting c.in_ok-tables.tables c.in_ok-types.ensures made.setting made.keys made.types c.in_ok-tables.ensures.places c.in_ok-tables.ensures.loops in
    searched_function j.bytes.now j.without j.names.now j.unit.now f c.requires.judged c.in_ok-tables.tables tables

pub query_clauses-requires-clause-candidates : goal.query_clauses-requires-clause-candidates
query_clauses-requires-clause-candidates c =
    let j = c.args.judged.now in
    let f = view_function j.function.now in
    let made = c.in_ok-setting.ensures in
    let tables = judged_tables j.bytes.now j.without j.names.now j.unit.now f c.requires.judged c.in_ok-types.types c.in_ok-setting.setting c.in_ok-tables.tables c.in_ok-types.ensures made.setting made.keys made.types c.in_ok-tables.ensures.places c.in_ok-tables.ensures.loops in
    c.requires.candidates ∙ ap (λ (ty : Typing). candidates ty f) (sym tables.typing)
