use Rattle.std.proofs.Common.{ap}
use Rattle.stk_tree.specs.View.{view_function}
use Rattle.stk_function_types.specs.Nodes.{typing_in}
use Rattle.stk_source_audit.proofs.Ran.{runs_test}
use Rattle.stk_source_audit.proofs.runs.answers.Goals as goal

pub returns : goal.returns
returns c =
    let p = c.args.tables.now.places in
    let ty = typing_in p.types in
    let f = view_function c.args.f.now in
    runs_test ty p.without f c.args.candidate c.args.set.now p.kept p.keys c.args.words.now c.in_ok-trace.trace.items c.as_slice.result.now c.in_ok-is_valid.field-0 c.is_hit_free.result (ap (λ g. g.kept) c.requires.setting) c.requires.keys c.in_ok-is_valid.ensures c.if-not-branch.false
    (c.in_ok-trace.ensures ty p.without c.requires.setting c.requires.keys)
    c.as_slice.ensures.value
    c.is_hit_free.ensures
