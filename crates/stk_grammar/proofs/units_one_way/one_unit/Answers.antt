use Rattle.stk_grammar.proofs.StatementLaws.{one_unit}
use Rattle.stk_grammar.proofs.units_one_way.one_unit.Goals as goal

pub returns : goal.returns
returns c = one_unit
