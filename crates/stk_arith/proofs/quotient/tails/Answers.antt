use Rattle.std.proofs.Common.{◌+◌, ◌-◌, ◌<◌, ◌≤◌, length, get_or, nat_lt, refl, subst, sym, ap, ◌∙◌, arith}
use Rattle.std.proofs.lemmas.List.{length-replicate, length-set, get_or-replicate, drop_all}
use Rattle.std.proofs.lemmas.List.Elements.{All-replicate, All-set}
use Rattle.stk_gates.specs.declared.edge.Edge.{Edge}
use Rattle.stk_gates.specs.Tables.{IsEdge}
use Rattle.stk_gates.specs.Edges.{edge_value}
use Rattle.stk_arith.specs.Rows.{number, AreEdges}
use Rattle.stk_gates.proofs.Growth.{obeys_before, extends_twice, extends_same}
use Rattle.stk_arith.proofs.Numbers.{edges_kept}
use Rattle.stk_gates.proofs.Edges.{edge_value-false}
use Rattle.stk_arith.proofs.Quotients.{tail_step}
use Rattle.stk_arith.proofs.quotient.tails.Goals as goal

pub loop-k-init : goal.loop-k-init
loop-k-init c =
    let w = length c.args.row.now in
    let none : Edge = record { 0 = 0 } in
    let zeros = c.in_ok-tails.ensures in
    record {
      long = ap length zeros ∙ length-replicate (w + 1) none;
      edges = subst (AreEdges c.args.gates.now) (sym zeros) (All-replicate (IsEdge c.args.gates.now) (w + 1) none (omega arith));
      value = λ gates o j e low high. let all : length c.args.row.now ≤ j = omega arith in let at : j < w + 1 = omega arith in ap (edge_value gates) (ap (λ l. get_or l j e) zeros ∙ get_or-replicate (w + 1) j none e at) ∙ (edge_value-false _ gates o ∙ ap (λ l. nat_lt 0 (number gates l)) (sym (drop_all j c.args.row.now all)));
      extends = extends_same _;
      adds = omega arith;
    }

pub loop-k-preserved : goal.loop-k-preserved
loop-k-preserved c =
    let old = c.loop-k.invariant in
    let w = length c.args.row.now in
    let i = w - 1 - c.loop-k.k in
    let tails = c.loop-k.tails.items in
    let none : Edge = record { 0 = 0 } in
    let grown = c.or.ensures.extends in
    record {
      long = length-set tails i _ ∙ old.long;
      edges = All-set (IsEdge c.or.new.self) tails i _ c.in_ok-edge.ensures.edge (edges_kept _ _ tails grown old.edges);
      value = λ gates o. tail_step gates c.args.row.now tails c.loop-k.k i c.in_ok-edge.edge c.index.result.now none (omega arith) refl old.long c.index.ensures (c.in_ok-edge.ensures.value gates o) (old.value gates (obeys_before _ _ gates grown o));
      extends = extends_twice _ _ _ old.extends grown;
      adds = let x = old.adds in let y = c.or.ensures.adds in omega arith;
    }
