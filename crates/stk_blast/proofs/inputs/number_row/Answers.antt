use Rattle.std.proofs.Common.{◌∙◌}
use Rattle.std.proofs.Math.Nat.{mod-eq_of_lt}
use Rattle.stk_blast.proofs.inputs.number_row.Goals as goal

pub returns-clause-value : goal.returns-clause-value
returns-clause-value c t values o = c.in_ok-row.ensures.value t values o ∙ mod-eq_of_lt c.requires.value
