use Rattle.std.proofs.Common.{subst, sym, arith}
use Rattle.stk_arith.specs.Rows.{AreEdges}
use Rattle.stk_arith.proofs.Numbers.{edges_push, edge_at}
use Rattle.stk_arith.proofs.Adders.{inverted_step}
use Rattle.stk_gates.proofs.Growth.{extends_same}
use Rattle.stk_arith.proofs.sums.inverted_row.Goals as goal

pub loop-i-preserved : goal.loop-i-preserved
loop-i-preserved c =
    let old = c.loop-i.invariant in
    let e = c.inverted.result in
    record {
      length = omega (arith, c.in_ok-push.ensures.len);
      edges = λ t h. subst (AreEdges t) (sym c.in_ok-push.ensures.items) (edges_push t t c.loop-i.inverted.items e (extends_same t) (old.edges t h)
          (let k = edge_at t t c.args.row.now c.loop-i.i e (omega arith) (extends_same t) h in let g = c.inverted.ensures.gate in omega arith));
      value = λ gates. inverted_step gates c.args.row.now c.loop-i.inverted.items c.push.new.self.items c.loop-i.i _ e c.in_ok-push.ensures.items old.length (omega arith) (c.inverted.ensures.value gates) (old.value gates);
    }
