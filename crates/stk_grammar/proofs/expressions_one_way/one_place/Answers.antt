use Rattle.stk_grammar.proofs.Laws.{one_place}
use Rattle.stk_grammar.proofs.expressions_one_way.one_place.Goals as goal

pub returns : goal.returns
returns c = one_place
