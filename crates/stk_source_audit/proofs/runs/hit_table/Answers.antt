use Rattle.std.proofs.Common.{sym, ap, ◌∙◌}
use Rattle.stk_tree.specs.View.{view_function}
use Rattle.stk_numbers.specs.declared.conditions.Kinds.{Kinds}
use Rattle.stk_meaning.specs.Typings.{Typing}
use Rattle.stk_meaning.specs.Keys.{keys_of}
use Rattle.stk_hits.specs.PathSubjects.{kinds_of}
use Rattle.stk_function_types.specs.Nodes.{typing_in}
use Rattle.stk_source_audit.proofs.Tabled.{judged_tables}
use Rattle.stk_source_audit.proofs.runs.hit_table.Goals as goal

pub table_of-requires-clause-tables : goal.table_of-requires-clause-tables
table_of-requires-clause-tables c =
    let j = c.args.judged.now in
    let f = view_function j.function.now in
    let made = c.in_ok-setting.ensures in
    (judged_tables j.bytes.now j.without j.names.now j.unit.now f c.requires.judged c.in_ok-types.types c.in_ok-setting.setting c.in_ok-tables.tables c.in_ok-types.ensures made.setting made.keys made.types c.in_ok-tables.ensures.places c.in_ok-tables.ensures.loops).tables

pub table_of-requires-clause-kinds : goal.table_of-requires-clause-kinds
table_of-requires-clause-kinds c =
    let j = c.args.judged.now in
    let f = view_function j.function.now in
    let made = c.in_ok-setting.ensures in
    let tables = judged_tables j.bytes.now j.without j.names.now j.unit.now f c.requires.judged c.in_ok-types.types c.in_ok-setting.setting c.in_ok-tables.tables c.in_ok-types.ensures made.setting made.keys made.types c.in_ok-tables.ensures.places c.in_ok-tables.ensures.loops in
    c.requires.kinds
    ∙ ap (λ (x : Typing). kinds_of (keys_of x j.without f)) (sym tables.typing)
    ∙ ap (λ (w : Kinds). kinds_of (keys_of (typing_in c.in_ok-tables.tables.places.types) w f)) (sym tables.kinds)
    ∙ ap kinds_of (sym tables.tables.keys)
