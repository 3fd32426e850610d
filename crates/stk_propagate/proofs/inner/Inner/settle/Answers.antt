use Rattle.stk_propagate.proofs.Steps.{linked_assigned}
use Rattle.stk_propagate.proofs.inner.Inner.settle.Goals as goal

pub returns-then-is_true-clause-linked : goal.returns-then-is_true-clause-linked
returns-then-is_true-clause-linked c = linked_assigned c.args.self.now c.put.new.self c.put.ensures.rest c.put.ensures.grown.vars c.requires.linked
