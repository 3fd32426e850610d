use Rattle.stk_walk_values.proofs.walked.tested.Goals as goal

pub tested-requires-clause-ready : goal.tested-requires-clause-ready
tested-requires-clause-ready g c = record { keys = c.requires.keys; values_made = c.requires.made }

pub returns-clause-follows : goal.returns-clause-follows
returns-clause-follows g c = λ m s served at. c.in_ok-found.ensures.walks.leads m s served tt at

pub returns-clause-cost : goal.returns-clause-cost
returns-clause-cost g c = c.in_ok-found.ensures.cost
