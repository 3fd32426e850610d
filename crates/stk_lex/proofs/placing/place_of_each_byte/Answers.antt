use Rattle.stk_lex.proofs.PlaceOf.{place_of_is}
use Rattle.stk_lex.proofs.placing.place_of_each_byte.Goals as goal

pub returns : goal.returns
returns c = place_of_is
