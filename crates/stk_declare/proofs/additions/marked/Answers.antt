use Rattle.std.proofs.Common.{◌∙◌, refl}
use Rattle.stk_declare.proofs.Marking.{marked_is}
use Rattle.stk_declare.proofs.additions.marked.Goals as goal

pub returns-clause-is : goal.returns-clause-is
returns-clause-is c = marked_is c.args.f.now _ c.args.mark c.in_ok-copy.field-0 c.in_ok-copied_row.field-0 c.in_ok-copy.ensures (c.in_ok-copied_row.ensures ∙ c.as_slice.ensures) refl
