use Rattle.std.proofs.Common.{ap, ◌∙◌}
use Rattle.stk_tree.specs.View.{view_function}
use Rattle.stk_function_types.specs.Nodes.{typing_in}
use Rattle.stk_hits.specs.InputMaps.{map_at}
use Rattle.stk_hits.specs.PathSubjects.{kinds_of}
use Rattle.stk_hits.specs.PathTables.{wrapped}
use Rattle.stk_hits.proofs.Tabling.{one_more, wrapped_map}
use Rattle.stk_meaning.specs.Paths.{path}
use Rattle.stk_hits.proofs.path_table.record_run.Goals as goal

pub returns : goal.returns
returns c =
    let p = c.args.tables.now.places in
    let ty = typing_in p.types in
    let f = view_function c.args.f.now in
    let numbers = c.as_slice-2.ensures.value ∙ c.in_ok-words.ensures ∙ ap (wrapped c.args.kinds.now) (c.as_slice.ensures ∙ c.in_ok-inputs.ensures) ∙ wrapped_map c.args.kinds.now c.args.number ∙ ap (λ ks. map_at ks c.args.number) (c.requires.kinds ∙ ap kinds_of c.requires.tables.keys) in
    let run = c.as_slice-3.ensures.value ∙ c.in_ok-trace.ensures ty p.without c.requires.tables.setting c.requires.tables.keys ∙ ap (path ty p.without f) numbers in
    one_more ty p.without f c.record.result c.args.number c.args.table.now c.record.new.self c.as_slice-3.result.now run c.record.ensures
