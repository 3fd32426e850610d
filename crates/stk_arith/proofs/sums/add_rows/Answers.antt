use Rattle.std.proofs.Common.{subst, sym, arith}
use Rattle.stk_gates.proofs.Growth.{obeys_before, extends_twice}
use Rattle.stk_arith.specs.Rows.{AreEdges}
use Rattle.stk_arith.proofs.Numbers.{edges_push}
use Rattle.stk_arith.proofs.Adders.{sum_step}
use Rattle.stk_arith.proofs.sums.add_rows.Goals as goal

pub loop-i-preserved : goal.loop-i-preserved
loop-i-preserved c =
    let old = c.loop-i.invariant in
    let row = c.loop-i.row.items in
    let sum = c.in_ok-place.place.sum in
    let grown = c.add_place.ensures.extends in
    record {
      length = omega (arith, c.in_ok-push.ensures.len);
      edges = subst (AreEdges c.add_place.new.gates) (sym c.in_ok-push.ensures.items) (edges_push _ _ row sum grown old.edges c.in_ok-place.ensures.sum_edge);
      carry = c.in_ok-place.ensures.carry_edge;
      value = λ gates o. sum_step gates c.args.a.now c.args.b.now row c.push.new.self.items c.loop-i.i _ _ sum c.loop-i.carried c.in_ok-place.place.carry _ c.in_ok-push.ensures.items old.length (omega arith) (omega arith) (old.value gates (obeys_before _ _ gates grown o)) (c.in_ok-place.ensures.value gates o);
      extends = extends_twice _ _ _ old.extends grown;
      adds = let x = old.adds in let y = c.add_place.ensures.adds in omega arith;
    }
