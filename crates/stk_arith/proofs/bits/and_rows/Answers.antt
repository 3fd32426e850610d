use Rattle.std.proofs.Common.{bit_and, subst, sym, ap, ◌∙◌, arith}
use Rattle.std.proofs.lemmas.List.{take_all}
use Rattle.stk_gates.proofs.Growth.{obeys_before, extends_twice}
use Rattle.stk_arith.specs.Rows.{number, AreEdges}
use Rattle.stk_arith.proofs.Numbers.{edges_push}
use Rattle.stk_arith.proofs.Steps.{and_step}
use Rattle.stk_arith.proofs.bits.and_rows.Goals as goal

pub loop-i-preserved : goal.loop-i-preserved
loop-i-preserved c =
    let old = c.loop-i.invariant in
    let row = c.loop-i.row.items in
    let e = c.in_ok-edge.edge in
    let grown = c.and.ensures.extends in
    let items = c.in_ok-push.ensures.items in
    record {
      long = omega (arith, c.in_ok-push.ensures.len);
      edges = subst (AreEdges c.and.new.self) (sym items) (edges_push _ _ row e grown old.edges c.in_ok-edge.ensures.edge);
      value = λ gates o. and_step gates c.args.a.now c.args.b.now row c.push.new.self.items c.loop-i.i _ _ e items old.long (omega arith) (omega arith) (c.in_ok-edge.ensures.value gates o) (old.value gates (obeys_before _ _ gates grown o));
      extends = extends_twice _ _ _ old.extends grown;
      adds = let x = old.adds in let y = c.and.ensures.adds in omega arith;
    }

pub returns-clause-value : goal.returns-clause-value
returns-clause-value c gates o =
    let left = take_all c.loop-i.i c.args.a.now (omega arith) in
    let right = take_all c.loop-i.i c.args.b.now (omega arith) in
    ap (number gates) c.from_vec.ensures ∙ (c.loop-i.invariant.value gates o ∙ (λ j. bit_and (number gates (left j)) (number gates (right j))))
