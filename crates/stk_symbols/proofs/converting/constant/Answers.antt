use Rattle.std.proofs.Common.{◌∙◌}
use mir.Syntax.{w128}
use Rattle.std.proofs.lemmas.Int.{to_z-of_z}
use Rattle.stk_numbers.specs.Kinds.{residue}
use Rattle.stk_symbols.proofs.converting.constant.Goals as goal

pub returns-clause-value : goal.returns-clause-value
returns-clause-value c = λ numbers o. c.in_ok-v.ensures.value numbers o ∙ (c.bits.ensures ∙ (λ i. residue (c.width-w.ensures i) (to_z-of_z w128 c.args.number c.ranges.number i)))
