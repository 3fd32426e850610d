use Rattle.std.proofs.Common.{◌∙◌}
use Rattle.stk_rewrite.proofs.Shifting.{shift_by_none}
use Rattle.stk_rewrite.proofs.shifts.shift.Goals as goal

pub returns-then-y-eq0 : goal.returns-then-y-eq0
returns-then-y-eq0 c = shift_by_none c.args.terms.now c.requires.sound c.args.op c.args.a c.args.b c.requires.shift c.requires.pair (λ r. c.in-Some.ensures.value r ∙ c.if-y-eq0.true)
