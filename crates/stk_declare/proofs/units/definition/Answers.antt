use Rattle.stk_declare.proofs.units.definition.Goals as goal

pub returns-clause-gives : goal.returns-clause-gives
returns-clause-gives c = rw c.in_ok-use_head.ensures.is at c.head.ensures.gives
