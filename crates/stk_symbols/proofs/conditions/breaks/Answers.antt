use Rattle.std.proofs.Common.{◌∙◌, sym, ap}
use Rattle.stk_terms.specs.Values.{bit}
use Rattle.stk_values.specs.Standing.{stands}
use Rattle.stk_symbols.proofs.Overflows.{no_condition}
use Rattle.stk_symbols.proofs.conditions.breaks.Goals as goal

pub returns-in_ok-v-in_default-clause-value : goal.returns-in_ok-v-in_default-clause-value
returns-in_ok-v-in_default-clause-value c = λ numbers o.
    c.in_ok-v-in_default.ensures.value numbers o ∙ ap bit (sym (no_condition c.args.what c.args.op c.args.kind (stands c.args.kind (numbers c.args.left.0)) (stands c.args.kind (numbers c.args.right.0)) c.in_default.not-Overflow c.in_default.not-Zero))
