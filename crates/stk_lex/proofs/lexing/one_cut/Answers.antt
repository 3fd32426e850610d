use Rattle.stk_lex.proofs.OneCut.{one_cut}
use Rattle.stk_lex.proofs.lexing.one_cut.Goals as goal

pub returns : goal.returns
returns c = one_cut
