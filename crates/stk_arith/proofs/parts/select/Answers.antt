use Rattle.std.proofs.Common.{subst, sym, arith}
use Rattle.stk_gates.specs.Edges.{edge_value}
use Rattle.stk_arith.specs.Rows.{AreEdges}
use Rattle.stk_gates.proofs.Growth.{obeys_before, extends_twice}
use Rattle.stk_arith.proofs.Numbers.{edges_push}
use Rattle.stk_arith.proofs.Adders.{select_step}
use Rattle.stk_arith.proofs.parts.select.Goals as goal

pub loop-i-preserved : goal.loop-i-preserved
loop-i-preserved c =
    let old = c.loop-i.invariant in
    let row = c.loop-i.row.items in
    let e = c.in_ok-edge.edge in
    let grown = c.mux.ensures.extends in
    record {
      length = omega (arith, c.in_ok-push.ensures.len);
      edges = subst (AreEdges c.mux.new.self) (sym c.in_ok-push.ensures.items) (edges_push _ _ row e grown old.edges c.in_ok-edge.ensures.edge);
      value = λ gates o. select_step gates (edge_value gates c.args.test) c.args.yes.now c.args.no.now row c.push.new.self.items c.loop-i.i _ _ e c.in_ok-push.ensures.items old.length (omega arith) (omega arith) (c.in_ok-edge.ensures.value gates o) (old.value gates (obeys_before _ _ gates grown o));
      extends = extends_twice _ _ _ old.extends grown;
      adds = let x = old.adds in let y = c.mux.ensures.adds in omega arith;
    }
