use Rattle.std.proofs.Common.{◌≡◌, ◌+◌, ◌-◌, ◌%◌, ◌^◌, length, replicate, ap, ◌∙◌, arith}
use Rattle.std.proofs.lemmas.List.{length-replicate}
use Rattle.stk_gates.specs.declared.edge.Edge.{Edge}
use Rattle.stk_gates.proofs.Edges.{edge_value-false}
use Rattle.stk_arith.specs.Rows.{number}
use Rattle.stk_arith.proofs.Alike.{number-filled_false}
use Rattle.stk_arith.proofs.compared.negative.Goals as goal

pub returns-clause-value : goal.returns-clause-value
returns-clause-value c gates o =
    let w = length c.args.row.now in
    let none : Edge = record { 0 = 0 } in
    let zeros : c.deref.result.now ≡ replicate w none = c.deref.ensures.value ∙ c.in_ok-zeros.ensures in
    let long : length c.deref.result.now ≡ w = ap length zeros ∙ length-replicate w none in
    let nothing : number gates c.deref.result.now ≡ 0 = ap (number gates) zeros ∙ number-filled_false gates none (edge_value-false _ gates o) w in
    let whole : 0 + 2 ^ w ≡ 2 ^ w = omega arith in
    c.in_ok-difference.ensures.value gates o ∙ ((λ j. (nothing j + 2 ^ long j - number gates c.args.row.now) % 2 ^ long j) ∙ ap (λ n. (n - number gates c.args.row.now) % 2 ^ w) whole)
