use Rattle.stk_units.proofs.Reading.{read_well, was_answered}
use Rattle.stk_units.proofs.Typed.{orderly_answer}
use Rattle.stk_units.proofs.Visits.{holds_on_ok}
use Rattle.stk_units.proofs.visiting.visit_unit.Goals as goal

pub visit_answer-requires-clause-read : goal.visit_answer-requires-clause-read
visit_answer-requires-clause-read g c = read_well c.bytes.result.now c.args.unit.now.mark c.args.names.now c.accept.new.names c.args.unit.now.tokens.now c.args.unit.now.body c.in_ok-found.found c.requires.few c.in_ok-found.ensures.answered

pub visit_answer-requires-clause-accepted : goal.visit_answer-requires-clause-accepted
visit_answer-requires-clause-accepted g c = rw c.bytes.ensures at (was_answered c.bytes.result.now c.args.unit.now.mark c.args.names.now c.accept.new.names c.args.unit.now.tokens.now c.args.unit.now.body c.in_ok-found.found c.requires.names c.in_ok-found.ensures.answered)

pub returns-clause-visited : goal.returns-clause-visited
returns-clause-visited g c = c.visit_answer.ensures c.args.names.now (rw c.bytes.ensures at c.in_ok-found.ensures.answered)

pub returns-clause-orderly : goal.returns-clause-orderly
returns-clause-orderly g c =
    let unit = c.args.unit.now in
    holds_on_ok c.visit_answer.result _ (orderly_answer c.bytes.result.now unit.mark c.args.names.now c.accept.new.names unit.body unit.tokens.now c.in_ok-found.found c.requires.names c.in_ok-found.ensures.answered)
