use Rattle.stk_records.proofs.Budgets.{legal_least, legal_most, legal_few, legal_counted}
use Rattle.stk_lint.proofs.lint.run.Goals as goal

pub answer-requires-clause-least : goal.answer-requires-clause-least
answer-requires-clause-least g c = legal_least c.in-Ok.ensures.legal

pub answer-requires-clause-most : goal.answer-requires-clause-most
answer-requires-clause-most g c = legal_most c.in-Ok.ensures.legal

pub input_bytes-requires : goal.input_bytes-requires
input_bytes-requires g c = legal_few c.in-Ok.ensures.legal

pub answer-requires-clause-counted : goal.answer-requires-clause-counted
answer-requires-clause-counted g c = legal_counted c.in-Ok.ensures.legal
