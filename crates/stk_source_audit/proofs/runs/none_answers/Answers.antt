use Rattle.std.proofs.Common.{◌∙◌}
use Rattle.stk_source_audit.proofs.Told.{told}
use Rattle.stk_source_audit.proofs.runs.none_answers.Goals as goal

pub returns : goal.returns
returns c = λ ty without f few t.
    told ty without f few c.args.table.now t c.args.candidate c.args.set.now c.in_ok-found.found c.is_none.result c.is_none.ensures
    (c.in_ok-found.ensures t.runs c.args.candidate t.described (c.as_slice.ensures.value ∙ c.in_ok-rows.ensures))
