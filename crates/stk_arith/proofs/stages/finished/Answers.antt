use Rattle.std.proofs.Common.{◌≡◌, if◌then◌else◌, ◌&&◌, length, get_or, replicate, subst, sym, ap, ◌∙◌, arith}
use Rattle.std.proofs.lemmas.List.{take_all, length-replicate, get_or-replicate}
use Rattle.stk_gates.specs.Edges.{edge_value}
use Rattle.stk_arith.specs.Rows.{number, AreEdges}
use Rattle.stk_gates.proofs.Growth.{obeys_before, extends_twice}
use Rattle.stk_arith.proofs.Numbers.{edges_push}
use Rattle.stk_arith.proofs.Adders.{select_step}
use Rattle.stk_arith.proofs.Shifting.{finished_bit}
use Rattle.stk_arith.proofs.Numbers.{edge_kept}
use Rattle.stk_arith.proofs.stages.finished.Goals as goal

pub loop-i-preserved : goal.loop-i-preserved
loop-i-preserved c =
    let old = c.loop-i.invariant in
    let all = c.loop-i.all.items in
    let e = c.in_ok-edge.edge in
    let grown = extends_twice _ _ _ c.and-in-loop-i.ensures.extends c.or.ensures.extends in
    let row = c.args.row.now in
    let fills = replicate (length row) c.args.fill in
    let i = c.loop-i.i in
    record {
      long = omega (arith, c.in_ok-push.ensures.len);
      edges = subst (AreEdges c.or.new.self) (sym c.in_ok-push.ensures.items) (edges_push _ _ all e grown old.edges c.in_ok-edge.ensures.edge);
      filled_edge = edge_kept _ _ _ grown old.filled_edge;
      filled = λ gates o. old.filled gates (obeys_before _ _ gates grown o);
      value = λ gates o.
          let o2 = obeys_before _ _ gates c.or.ensures.extends o in
          let o1 = obeys_before _ _ gates grown o in
          let v = edge_value gates c.args.over in
          let there : get_or fills i c.args.fill ≡ c.args.fill = get_or-replicate (length row) i c.args.fill c.args.fill (omega arith) in
          let one = finished_bit v (edge_value gates c.args.fill) (edge_value gates (get_or row i (record { 0 = 0 }))) _ _ _ (old.filled gates o1) (c.in_ok-kept.ensures.value gates o2 ∙ ap (λ z. z && edge_value gates (get_or row i (record { 0 = 0 }))) (c.inverted.ensures.value gates)) (c.in_ok-edge.ensures.value gates o) in
          select_step gates v fills row all c.push.new.self.items i c.args.fill (record { 0 = 0 }) e c.in_ok-push.ensures.items old.long (omega (arith, length-replicate (length row) c.args.fill)) (omega arith) (one ∙ sym (ap (λ z. if v then edge_value gates z else edge_value gates (get_or row i (record { 0 = 0 }))) there)) (old.value gates o1);
      extends = extends_twice _ _ _ old.extends grown;
      adds = let x = old.adds in let y = c.and-in-loop-i.ensures.adds in let z = c.or.ensures.adds in omega arith;
    }

pub returns-clause-value : goal.returns-clause-value
returns-clause-value c gates o =
    let row = c.args.row.now in
    let n = length row in
    let fills = take_all c.loop-i.i (replicate n c.args.fill) (omega (arith, length-replicate n c.args.fill)) in
    let rows = take_all c.loop-i.i row (omega arith) in
    c.loop-i.invariant.value gates o ∙ (λ j. if edge_value gates c.args.over then number gates (fills j) else number gates (rows j))
