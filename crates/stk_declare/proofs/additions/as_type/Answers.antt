use Rattle.std.proofs.Common.{◌∙◌, ap}
use Rattle.stk_ctype.specs.Types.{function_type}
use Rattle.stk_declare.proofs.Marking.{as_before}
use Rattle.stk_declare.proofs.additions.as_type.Goals as goal

pub returns-clause-is : goal.returns-clause-is
returns-clause-is c = ap function_type (c.in_ok-new.ensures ∙ as_before c.args.f.now c.in_ok-copy.copy c.in_ok-copy.ensures.is)
