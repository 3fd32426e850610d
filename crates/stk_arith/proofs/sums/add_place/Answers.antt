use Rattle.std.proofs.Common.{◌∙◌}
use Rattle.stk_gates.specs.Edges.{edge_value}
use Rattle.stk_gates.proofs.Edges.{and_turned}
use Rattle.stk_gates.proofs.Growth.{obeys_before}
use Rattle.stk_arith.proofs.Adders.{place_of}
use Rattle.stk_arith.proofs.sums.add_place.Goals as goal

pub returns-clause-value : goal.returns-clause-value
returns-clause-value c gates o =
    let second = obeys_before _ _ gates c.or.ensures.extends o in
    let first = obeys_before _ _ gates c.add_two-2.ensures.extends second in
    place_of (edge_value gates c.args.a) (edge_value gates c.args.b) (edge_value gates c.args.carry) _ _ _ _ _
    (c.in_ok-first.ensures.sum gates first) (c.in_ok-second.ensures.sum gates second) (c.in_ok-first.ensures.carry gates first)
    (c.in_ok-second.ensures.carry gates second ∙ and_turned (edge_value gates c.in_ok-first.first.sum) (edge_value gates c.args.carry)) (c.in_ok-next.ensures.value gates o)
