use Rattle.stk_walk_values.proofs.walked.value.Goals as goal

pub value-requires-clause-ready : goal.value-requires-clause-ready
value-requires-clause-ready g c = record { keys = c.requires.keys; values_made = c.requires.made }

pub returns-clause-follows : goal.returns-clause-follows
returns-clause-follows g c = λ m s served at. c.in_ok-found.ensures.walks.leads m s served tt at

pub returns-clause-cost : goal.returns-clause-cost
returns-clause-cost g c = c.in_ok-found.ensures.cost
