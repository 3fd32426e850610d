use Rattle.std.proofs.Common.{not, nat_eq, ap, ◌∙◌, arith}
use Rattle.std.proofs.lemmas.List.{take_all}
use Rattle.stk_gates.specs.Edges.{edge_value}
use Rattle.stk_gates.proofs.Growth.{obeys_before, extends_twice}
use Rattle.stk_arith.specs.Rows.{number}
use Rattle.stk_arith.proofs.Steps.{apart_step, not_not}
use Rattle.stk_arith.proofs.compared.equal.Goals as goal

pub loop-i-preserved : goal.loop-i-preserved
loop-i-preserved c =
    let old = c.loop-i.invariant in
    let grown = extends_twice _ _ _ c.xor.ensures.extends c.or.ensures.extends in
    record {
      edge = c.in_ok-apart.ensures.edge;
      value = λ gates o.
          let o2 = obeys_before _ _ gates c.or.ensures.extends o in
          let o1 = obeys_before _ _ gates grown o in
          apart_step gates c.args.a.now c.args.b.now c.loop-i.i _ _ (edge_value gates c.loop-i.apart) (edge_value gates c.in_ok-differ.differ) _ (omega arith) (omega arith) (old.value gates o1) (c.in_ok-differ.ensures.value gates o2) (c.in_ok-apart.ensures.value gates o);
      extends = extends_twice _ _ _ old.extends grown;
      adds = let x = old.adds in let y = c.xor.ensures.adds in let z = c.or.ensures.adds in omega arith;
    }

pub returns-clause-value : goal.returns-clause-value
returns-clause-value c gates o =
    let left = take_all c.loop-i.i c.args.a.now (omega arith) in
    let right = take_all c.loop-i.i c.args.b.now (omega arith) in
    c.inverted.ensures.value gates ∙ (ap not (c.loop-i.invariant.value gates o) ∙ (not_not _ ∙ (λ j. nat_eq (number gates (left j)) (number gates (right j)))))
