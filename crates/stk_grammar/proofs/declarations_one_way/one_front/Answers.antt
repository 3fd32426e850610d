use Rattle.stk_grammar.proofs.DeclarationLaws.{one_front}
use Rattle.stk_grammar.proofs.declarations_one_way.one_front.Goals as goal

pub returns : goal.returns
returns c = one_front
