use Rattle.stk_lex.proofs.InOrder.{units_are, units_alone}
use Rattle.stk_lex.proofs.cutting.units_in_order.Goals as goal

pub returns-clause-are : goal.returns-clause-are
returns-clause-are c = units_are

pub returns-clause-alone : goal.returns-clause-alone
returns-clause-alone c bytes notes tokens pieces = units_alone bytes notes pieces tokens 0 0
