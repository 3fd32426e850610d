use Rattle.std.proofs.Common.{pos, true, get_or, sym, ◌∙◌}
use Rattle.stk_walking.proofs.Costing.{at_most}
use Rattle.stk_walk_values.proofs.calls.check_arguments.Goals as goal

pub returns-in_ok-violate-in-Some-clause-stands : goal.returns-in_ok-violate-in-Some-clause-stands
returns-in_ok-violate-in-Some-clause-stands g c = rw c.in-Some.is (λ m s f xs served shown same at.
    c.in_ok-violate-in-Some.ensures.stands m s (get_or xs 0 (pos 0)) (get_or xs 1 (pos 0)) (get_or xs 2 (pos 0)) true f served shown.operands (same ∙ sym c.library_tests-tests.ensures.is) at)

pub returns-in_ok-violate-in-Some-clause-charge : goal.returns-in_ok-violate-in-Some-clause-charge
returns-in_ok-violate-in-Some-clause-charge g c =
    let first = rw c.in-Some.is at c.requires.arguments.first in
    rw c.in-Some.is (at_most _ c.in_ok-violate-in-Some.ensures.charge (c.library_tests-tests.ensures.charge c.args.arguments.operands.first.kind c.args.arguments.operands.second.kind first))
