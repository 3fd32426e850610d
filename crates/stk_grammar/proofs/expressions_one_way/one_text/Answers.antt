use Rattle.stk_grammar.proofs.Laws.{one_text}
use Rattle.stk_grammar.proofs.expressions_one_way.one_text.Goals as goal

pub returns : goal.returns
returns c = one_text
