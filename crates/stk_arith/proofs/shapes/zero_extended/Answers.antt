use Rattle.std.proofs.Common.{◌-◌, length, replicate, subst, sym, ap, ◌∙◌, arith}
use Rattle.std.proofs.lemmas.List.{length-replicate}
use Rattle.std.proofs.lemmas.List.Elements.{All-replicate}
use Rattle.std.proofs.Math.ListN.{length-append}
use Rattle.stk_gates.specs.declared.edge.Edge.{Edge}
use Rattle.stk_gates.specs.Tables.{IsEdge}
use Rattle.stk_gates.proofs.Edges.{edge_value-false}
use Rattle.stk_arith.specs.Rows.{number, AreEdges}
use Rattle.stk_arith.proofs.Numbers.{edges_append}
use Rattle.stk_arith.proofs.BitParts.{number-zeros}
use Rattle.stk_arith.proofs.shapes.zero_extended.Goals as goal

pub returns-clause-length : goal.returns-clause-length
returns-clause-length c =
    let row = c.args.row.now in
    let k = c.args.width - length row in
    let none : Edge = record { 0 = 0 } in
    ap length (c.from_vec.ensures ∙ c.in_ok-all.ensures) ∙ (length-append row (replicate k none) ∙ omega (arith, length-replicate k none))

pub returns-clause-edges : goal.returns-clause-edges
returns-clause-edges c t h =
    let row = c.args.row.now in
    let k = c.args.width - length row in
    let none : Edge = record { 0 = 0 } in
    subst (AreEdges t) (sym (c.from_vec.ensures ∙ c.in_ok-all.ensures)) (edges_append t row (replicate k none) h (All-replicate (IsEdge t) k none (omega arith)))

pub returns-clause-value : goal.returns-clause-value
returns-clause-value c t gates o =
    ap (number gates) c.from_vec.ensures ∙ number-zeros gates c.args.row.now _ _ _ (edge_value-false t gates o) c.in_ok-all.ensures
