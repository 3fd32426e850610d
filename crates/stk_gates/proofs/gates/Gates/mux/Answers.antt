use Rattle.std.proofs.Common.{◌&&◌, ap, ◌∙◌}
use Rattle.stk_gates.specs.Edges.{edge_value}
use Rattle.stk_gates.proofs.Growth.{obeys_before}
use Rattle.stk_gates.proofs.Edges.{mux_of}
use Rattle.stk_gates.proofs.gates.Gates.mux.Goals as goal

pub returns-clause-value : goal.returns-clause-value
returns-clause-value c gates o =
    let second = obeys_before _ _ gates c.or.ensures.extends o in
    let first = obeys_before _ _ gates c.and-2.ensures.extends second in
    mux_of (edge_value gates c.args.test) (edge_value gates c.args.yes) (edge_value gates c.args.no) _ _ _ (c.in_ok-first.ensures.value gates first) (c.in_ok-second.ensures.value gates second ∙ ap (λ z. z && edge_value gates c.args.no) (c.inverted.ensures.value gates)) (c.in_ok-or.ensures.value gates o)
