use Rattle.stk_lex.proofs.OnePlace.{one_place}
use Rattle.stk_lex.proofs.placing.one_place.Goals as goal

pub returns : goal.returns
returns c = one_place
