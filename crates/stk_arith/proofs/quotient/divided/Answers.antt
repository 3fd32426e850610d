use Rattle.std.proofs.Common.{◌≡◌, ◌+◌, ◌-◌, ◌*◌, ◌^◌, ◌≤◌, length, drop, get_or, take, ◌∷◌, refl, subst, sym, ap, ◌∙◌, arith}
use Rattle.std.proofs.lemmas.List.{length-set}
use Rattle.stk_gates.specs.declared.edge.Edge.{Edge}
use Rattle.stk_gates.specs.Tables.{gate_count, IsEdge}
use Rattle.stk_gates.specs.Edges.{edge_value}
use Rattle.stk_arith.specs.Rows.{number}
use Rattle.stk_gates.proofs.Growth.{obeys_before, extends_twice}
use Rattle.stk_arith.proofs.Numbers.{edges_kept, number-split}
use Rattle.std.proofs.lemmas.List.Elements.{All-set}
use Rattle.stk_arith.specs.Division.{IsTaken, IsDivided}
use Rattle.stk_arith.proofs.Quotients.{more_places, divided_step}
use Rattle.stk_arith.proofs.quotient.divided.Goals as goal

pub loop-k-preserved : goal.loop-k-preserved
loop-k-preserved c =
    let old = c.loop-k.invariant in
    let w = length c.args.a.now in
    let k = c.loop-k.k in
    let i = w - 1 - k in
    let none : Edge = record { 0 = 0 } in
    let q = c.loop-k.quotient.items in
    let b = c.args.b.now in
    let bit_edge = c.in_ok-step.step.bit in
    let t = c.divide_place.new.gates in
    let grown = c.divide_place.ensures.extends in
    let x = get_or c.args.a.now i none in
    let row : c.deref-in-loop-k.result.now ≡ x ∷ c.loop-k.rest.items = c.deref-in-loop-k.ensures.value ∙ (c.in_ok-row.ensures ∙ ap (λ l. x ∷ l) c.deref.ensures.value) in
    let long : length c.deref-in-loop-k.result.now ≡ k + 1 = let l = old.rest_long in ap length row ∙ omega arith in
    record {
      long = length-set q i bit_edge ∙ old.long;
      rest_long = c.in_ok-step.ensures.length ∙ long;
      edges = All-set (IsEdge t) q i bit_edge c.in_ok-step.ensures.bit_edge (edges_kept _ _ q grown old.edges);
      rest_edges = c.in_ok-step.ensures.edges;
      value = λ gates o.
          let o1 = obeys_before _ _ gates grown o in
          let tells = ap (edge_value gates) c.index.ensures ∙ old.tails gates o1 (k + 1) c.index.result.now (omega arith) in
          let whole = number-split gates b (k + 1) (omega arith) in
          let took = c.in_ok-step.ensures.value gates (number gates (drop (k + 1) b)) o tells in
          divided_step gates c.args.a.now q b c.loop-k.rest.items c.in_ok-step.step.rest.items k i none bit_edge (omega arith) refl old.long (old.value gates o1)
          (subst (λ n. IsTaken (number gates (x ∷ c.loop-k.rest.items)) n (edge_value gates bit_edge) (number gates c.in_ok-step.step.rest.items)) (sym whole)
          (subst (λ n. IsTaken (number gates (x ∷ c.loop-k.rest.items)) (number gates (take (k + 1) b) + 2 ^ n * number gates (drop (k + 1) b)) (edge_value gates bit_edge) (number gates c.in_ok-step.step.rest.items)) long
          (subst (λ l. IsTaken (number gates l) (number gates (take (k + 1) b) + 2 ^ length c.deref-in-loop-k.result.now * number gates (drop (k + 1) b)) (edge_value gates bit_edge) (number gates c.in_ok-step.step.rest.items)) row
          (subst (λ l. IsTaken (number gates c.deref-in-loop-k.result.now) (number gates l + 2 ^ length c.deref-in-loop-k.result.now * number gates (drop (k + 1) b)) (edge_value gates bit_edge) (number gates c.in_ok-step.step.rest.items)) c.split_at.ensures.front took))));
      tail_edges = edges_kept _ _ _ grown old.tail_edges;
      tails = λ gates o. old.tails gates (obeys_before _ _ gates grown o);
      tails_long = old.tails_long;
      extends = extends_twice _ _ _ old.extends grown;
      adds =
          let before : gate_count c.loop-k.gates ≤ (gate_count c.args.gates.now + w) + k * (12 * w + 9) = let h = old.adds in omega arith in
          let step : gate_count t ≤ gate_count c.loop-k.gates + (12 * w + 9) = let h = c.divide_place.ensures.adds in omega arith in
          let all = more_places k (k + 1) (gate_count c.args.gates.now + w) _ _ (12 * w + 9) refl before step in
          omega arith;
    }

pub returns-clause-value : goal.returns-clause-value
returns-clause-value c gates o =
    let done : length c.args.a.now - c.loop-k.k ≡ 0 = omega arith in
    subst (λ n. IsDivided (number gates (drop n c.args.a.now)) (number gates c.args.b.now) (number gates (drop n c.loop-k.quotient.items)) (number gates c.loop-k.rest.items)) done (c.loop-k.invariant.value gates o)

pub returns-clause-some : goal.returns-clause-some
returns-clause-some c gates o = ap (edge_value gates) c.index-2.ensures ∙ c.loop-k.invariant.tails gates o 0 c.index-2.result.now (omega arith)

pub returns-clause-adds : goal.returns-clause-adds
returns-clause-adds c =
    let done : c.loop-k.k ≡ length c.args.a.now = omega arith in
    let all = subst (λ n. gate_count c.loop-k.gates ≤ gate_count c.args.gates.now + (length c.args.a.now + n * (12 * length c.args.a.now + 9))) done c.loop-k.invariant.adds in
    omega arith
