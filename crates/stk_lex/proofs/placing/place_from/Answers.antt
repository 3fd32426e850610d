use Rattle.stk_lex.proofs.PlaceOf.{is_place_of}
use Rattle.stk_lex.proofs.placing.place_from.Goals as goal

pub returns-clause-value : goal.returns-clause-value
returns-clause-value c = is_place_of c.args.bytes.now c.args.at c.place_behind.result c.requires.within.1 c.place_behind.ensures
