use Rattle.std.proofs.Common.{◌∙◌, sym, arith, rules, []}
use Rattle.stk_ctype.proofs.Noting.{length-structs_behind}
use Rattle.stk_ctype.proofs.Placing.{within_known, not_kept}
use Rattle.stk_ctype.proofs.checking.may_have.Goals as goal

pub returns : goal.returns
returns c = λ _.
    let size = within_known _ c.in_default-layout.field-0 (sym c.in_default-layout.is ∙ c.layout.ensures) in
    (omega (arith, c.if-id-structs.false, c.structs.ensures, length-structs_behind [] c.args.names.now), not_kept c.args.names.now c.args.id _ c.in_default.ensures, c.if-not-are_members.ensures (search rules), size.0, size.1)
