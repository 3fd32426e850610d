use Rattle.std.proofs.Common.{subst}
use Rattle.stk_operators.specs.Words.{IsWord}
use Rattle.stk_operators.proofs.WordNumbers.{flip_value}
use Rattle.stk_operators.proofs.operating.flipped.Goals as goal

pub returns : goal.returns
returns c = flip_value c.args.kind c.args.number c.number.result c.wrapped.result (subst IsWord c.number.ensures.is c.number.ensures.word) c.number.ensures.is c.wrapped.ensures
