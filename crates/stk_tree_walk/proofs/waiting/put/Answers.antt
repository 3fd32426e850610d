use Rattle.std.proofs.Common.{ap, ◌∙◌}
use Rattle.stk_tree_walk.specs.Waiting.{heft, left_of}
use Rattle.stk_tree_walk.proofs.Piling.{heft_put, left_put}
use Rattle.stk_tree_walk.proofs.waiting.put.Goals as goal

pub returns-clause-left : goal.returns-clause-left
returns-clause-left c = ap left_of c.in_ok-push.ensures.items ∙ left_put c.args.out.now.items c.args.item

pub returns-clause-heft : goal.returns-clause-heft
returns-clause-heft c = ap heft c.in_ok-push.ensures.items ∙ heft_put c.args.out.now.items c.args.item
