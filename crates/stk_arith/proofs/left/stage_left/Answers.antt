use Rattle.std.proofs.Common.{◌≡◌, ◌-◌, if◌then◌else◌, ◌++◌, length, take, replicate, refl, ap, ◌∙◌}
use Rattle.stk_gates.specs.declared.edge.Edge.{Edge}
use Rattle.stk_gates.specs.Edges.{edge_value}
use Rattle.stk_gates.proofs.Edges.{edge_value-false}
use Rattle.stk_arith.specs.Rows.{number}
use Rattle.stk_arith.proofs.LeftShifts.{moved_left}
use Rattle.stk_arith.proofs.left.stage_left.Goals as goal

pub returns-clause-value : goal.returns-clause-value
returns-clause-value c gates o =
    let row = c.args.row.now in
    let by = c.args.by in
    let w = length row in
    let none : Edge = record { 0 = 0 } in
    let moved : c.extend_from_slice.new.self.items ≡ replicate by none ++ take (w - by) row =
    c.in_ok-extend_from_slice.ensures.items ∙ (λ j. c.in_ok-moved.ensures j ++ c.split_at.ensures.front j) in
    let step = moved_left gates row c.extend_from_slice.new.self.items by w none (edge_value-false _ gates o) refl c.requires.within moved in
    c.in_ok-result.ensures.value gates o ∙ ap (λ n. if edge_value gates c.args.test then n else number gates row) (ap (number gates) c.deref.ensures.value ∙ step)
