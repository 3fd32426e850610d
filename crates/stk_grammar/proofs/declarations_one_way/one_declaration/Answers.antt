use Rattle.stk_grammar.proofs.DeclarationLaws.{one_declaration}
use Rattle.stk_grammar.proofs.declarations_one_way.one_declaration.Goals as goal

pub returns : goal.returns
returns c = one_declaration
