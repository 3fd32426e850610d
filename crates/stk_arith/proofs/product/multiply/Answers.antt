use Rattle.std.proofs.Common.{◌≡◌, ◌+◌, ◌-◌, ◌*◌, ◌%◌, ◌^◌, length, take, get_or, subst, sym, ap, ◌∙◌, arith}
use Rattle.std.proofs.lemmas.List.{take_all}
use Rattle.stk_gates.specs.declared.edge.Edge.{Edge}
use Rattle.stk_gates.specs.Tables.{gate_count, IsEdge}
use Rattle.stk_gates.specs.Edges.{edge_value}
use Rattle.stk_arith.specs.Rows.{bit, number, AreEdges}
use Rattle.stk_gates.proofs.Growth.{obeys_before, extends_twice, extends_same}
use Rattle.stk_gates.proofs.Edges.{edge_value-false}
use Rattle.std.proofs.lemmas.List.{length-replicate}
use Rattle.std.proofs.lemmas.List.Elements.{All-replicate}
use Rattle.stk_arith.proofs.Alike.{number-filled_false}
use Rattle.stk_arith.proofs.Products.{product_step, triangle, six, nothing}
use Rattle.stk_arith.proofs.product.multiply.Goals as goal

pub loop-i-init : goal.loop-i-init
loop-i-init c =
    let w = length c.args.a.now in
    let zeros = c.in_ok-row.ensures in
    let none : Edge = record { 0 = 0 } in
    record {
      long = ap length zeros ∙ length-replicate w none;
      edges = subst (AreEdges c.args.gates.now) (sym zeros) (All-replicate (IsEdge c.args.gates.now) w none (omega arith));
      value = λ gates o. ap (number gates) zeros ∙ (number-filled_false gates none (edge_value-false _ gates o) w ∙ nothing (number gates c.args.a.now) (2 ^ w));
      extends = extends_same _;
      adds = let left : w - 0 ≡ w = omega arith in let same = ap (λ n. n * (n + 1)) left in omega arith;
    }

pub loop-i-preserved : goal.loop-i-preserved
loop-i-preserved c =
    let old = c.loop-i.invariant in
    let w = length c.args.a.now in
    let row = c.loop-i.row.items in
    let slice = c.deref.ensures.value in
    let grown = c.add_shifted.ensures.extends in
    let long : length c.deref.result.now ≡ w = ap length slice ∙ old.long in
    record {
      long = c.in_ok-row-2.ensures.length ∙ long;
      edges = c.in_ok-row-2.ensures.edges;
      value = λ gates o. product_step gates c.args.a.now c.args.b.now c.deref.result.now w c.loop-i.i (record { 0 = 0 }) _ (omega arith) (ap (number gates) slice ∙ old.value gates (obeys_before _ _ gates grown o)) (subst (λ n. number gates c.in_ok-row-2.row.items ≡ (number gates c.deref.result.now + 2 ^ c.loop-i.i * (bit (edge_value gates (get_or c.args.b.now c.loop-i.i (record { 0 = 0 }))) * number gates c.args.a.now)) % 2 ^ n) long (c.in_ok-row-2.ensures.value gates o));
      extends = extends_twice _ _ _ old.extends grown;
      adds = triangle (w - c.loop-i.i) (gate_count c.loop-i.gates) 0 _ (w - (c.loop-i.i + 1)) w _ (omega arith) (let y = c.add_shifted.ensures.adds in omega arith) old.adds;
    }

pub returns-clause-value : goal.returns-clause-value
returns-clause-value c gates o =
    let all : take c.loop-i.i c.args.b.now ≡ c.args.b.now = take_all c.loop-i.i c.args.b.now (omega arith) in
    ap (number gates) c.from_vec.ensures ∙ (c.loop-i.invariant.value gates o ∙ ap (λ l. (number gates c.args.a.now * number gates l) % 2 ^ length c.args.a.now) all)

pub returns-clause-adds : goal.returns-clause-adds
returns-clause-adds c = six (length c.args.a.now) _ _ (let h = c.loop-i.invariant.adds in omega arith)
