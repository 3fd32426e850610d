use Rattle.std.proofs.Common.{map}
use Rattle.stk_tree.specs.View.{view_function}
use Rattle.stk_function_types.specs.Nodes.{typing_in}
use Rattle.stk_function_types.specs.Visits.{marked_visit}
use Rattle.stk_spelling.proofs.Telling.{claimed}
use Rattle.stk_spelling.proofs.claims.claim_by.Goals as goal

pub returns-in_ok-text-in-Algebra : goal.returns-in_ok-text-in-Algebra
returns-in_ok-text-in-Algebra c =
    claimed (typing_in c.args.types.now) (view_function c.args.function.now) c.args.candidate.node c.args.candidate.kind (map marked_visit c.args.visits.now) c.in_ok-text-in-Algebra.text.items c.from_vec.result c.in-Algebra.is c.requires c.in_ok-text-in-Algebra.ensures c.from_vec.ensures
