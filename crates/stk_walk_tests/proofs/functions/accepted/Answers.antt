use Rattle.stk_units.proofs.Reading.{read_well, was_answered}
use Rattle.stk_walk_tests.proofs.Ordered.{left_orderly}
use Rattle.stk_walk_tests.proofs.functions.accepted.Goals as goal

pub returns-clause-names : goal.returns-clause-names
returns-clause-names c = left_orderly c.args.bytes.now _ c.args.names.now c.accept.new.names c.args.tokens.now _ c.in_ok-found.found c.requires.names c.in_ok-found.ensures.answered

pub returns-clause-read : goal.returns-clause-read
returns-clause-read c = read_well c.args.bytes.now _ c.args.names.now c.accept.new.names c.args.tokens.now _ c.in_ok-found.found c.requires.few c.in_ok-found.ensures.answered

pub returns-clause-accepted : goal.returns-clause-accepted
returns-clause-accepted c = was_answered c.args.bytes.now _ c.args.names.now c.accept.new.names c.args.tokens.now _ c.in_ok-found.found c.requires.names c.in_ok-found.ensures.answered
