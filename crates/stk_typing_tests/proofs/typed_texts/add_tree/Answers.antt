use Rattle.stk_ctype.specs.Structs.{structs_of}
use Rattle.stk_typing_tests.proofs.typed_texts.add_tree.Goals as goal

pub expression-requires-clause-scope : goal.expression-requires-clause-scope
expression-requires-clause-scope c = c.in_ok-locals.ensures (structs_of c.args.names.now)
