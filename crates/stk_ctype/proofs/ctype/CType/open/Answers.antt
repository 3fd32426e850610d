use Rattle.stk_ctype.proofs.Turning.{function_some}
use Rattle.stk_ctype.proofs.ctype.CType.open.Goals as goal

pub returns-in-None : goal.returns-in-None
returns-in-None c = function_some c.args.self c.in-Function.inner c.in-Function.is
