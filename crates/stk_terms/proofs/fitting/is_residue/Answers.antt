use Rattle.std.proofs.Common.{refl, arith}
use Rattle.stk_terms.proofs.Wraps.{powers}
use Rattle.stk_terms.proofs.fitting.is_residue.Goals as goal

pub returns-then-width-ge64 : goal.returns-then-width-ge64
returns-then-width-ge64 c = (λ _. omega (arith, powers 64 c.args.width c.if-width-ge64.true), λ _. refl)
