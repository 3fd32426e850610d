use Rattle.std.proofs.Common.{◌-◌, length, get_or, replicate, subst, sym, ap, ◌∙◌, arith}
use Rattle.std.proofs.lemmas.List.{length-replicate}
use Rattle.std.proofs.lemmas.List.Elements.{All-replicate}
use Rattle.std.proofs.Math.ListN.{length-append}
use Rattle.stk_gates.specs.declared.edge.Edge.{Edge}
use Rattle.stk_gates.specs.Tables.{IsEdge}
use Rattle.stk_gates.proofs.Growth.{extends_same}
use Rattle.stk_arith.specs.Rows.{number, AreEdges}
use Rattle.stk_arith.proofs.Numbers.{edges_append, edge_at}
use Rattle.stk_arith.proofs.BitParts.{number-extended}
use Rattle.stk_arith.proofs.shapes.sign_extended.Goals as goal

pub returns-clause-length : goal.returns-clause-length
returns-clause-length c =
    let row = c.args.row.now in
    let k = c.args.width - length row in
    let none : Edge = record { 0 = 0 } in
    let sign = get_or row (length row - 1) none in
    ap length (c.from_vec.ensures ∙ c.in_ok-all.ensures) ∙ (length-append row (replicate k sign) ∙ omega (arith, length-replicate k sign))

pub returns-clause-edges : goal.returns-clause-edges
returns-clause-edges c t h =
    let row = c.args.row.now in
    let k = c.args.width - length row in
    let none : Edge = record { 0 = 0 } in
    let sign = get_or row (length row - 1) none in
    let some = c.requires.some in
    subst (AreEdges t) (sym (c.from_vec.ensures ∙ c.in_ok-all.ensures)) (edges_append t row (replicate k sign) h (All-replicate (IsEdge t) k sign (edge_at t t row (length row - 1) none (omega arith) (extends_same t) h)))

pub returns-clause-value : goal.returns-clause-value
returns-clause-value c gates =
    ap (number gates) c.from_vec.ensures ∙ number-extended gates c.args.row.now _ c.args.width (record { 0 = 0 }) c.requires.some c.requires.wider c.in_ok-all.ensures
