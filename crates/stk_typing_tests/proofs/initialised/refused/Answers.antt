use Rattle.stk_ctype.specs.Structs.{structs_of}
use Rattle.stk_typing_tests.proofs.initialised.refused.Goals as goal

pub initialiser-requires-clause-scope : goal.initialiser-requires-clause-scope
initialiser-requires-clause-scope c = c.in_ok-locals.ensures (structs_of c.args.names.now)
