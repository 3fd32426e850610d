use Rattle.std.proofs.Common.{◌≡◌, if◌then◌else◌, ◌++◌, length, drop, replicate, refl, subst, sym, ap, ◌∙◌}
use Rattle.stk_gates.specs.Tables.{IsEdge}
use Rattle.stk_gates.specs.Edges.{edge_value}
use Rattle.stk_arith.specs.Rows.{number, AreEdges}
use Rattle.std.proofs.lemmas.List.Elements.{All-replicate, All-append, All-drop}
use Rattle.stk_arith.specs.Shifts.{signed_bits}
use Rattle.stk_arith.proofs.Shifting.{signed_if, moved_right}
use Rattle.stk_arith.proofs.right.stage_right.Goals as goal

pub returns-clause-value : goal.returns-clause-value
returns-clause-value c gates o =
    let row = c.args.row.now in
    let by = c.args.by in
    let w = length row in
    let v = edge_value gates c.args.fill in
    let moved : c.extend_from_slice-2.new.self.items ≡ drop by row ++ replicate by c.args.fill =
    c.in_ok-extend_from_slice-2.ensures.items ∙ ((λ j. c.extend_from_slice.new.self.items ++ c.deref.ensures.value j) ∙ ((λ j. c.in_ok-extend_from_slice.ensures.items j ++ c.in_ok-ends.ensures j) ∙ (λ j. (c.new-moved.ensures.items j ++ c.split_at.ensures.back j) ++ replicate by c.args.fill))) in
    let step = moved_right gates row c.extend_from_slice-2.new.self.items by w c.args.fill v refl c.requires.within refl moved in
    ap (signed_bits v w) (c.in_ok-result.ensures.value gates o ∙ (λ j. if edge_value gates c.args.test then number gates (c.deref-2.ensures.value j) else number gates row)) ∙ signed_if (edge_value gates c.args.test) v w _ _ _ step

pub select-requires-clause-yes : goal.select-requires-clause-yes
select-requires-clause-yes c =
    let row = c.args.row.now in
    let by = c.args.by in
    let t = c.args.gates.now in
    let moved : c.extend_from_slice-2.new.self.items ≡ drop by row ++ replicate by c.args.fill =
    c.in_ok-extend_from_slice-2.ensures.items ∙ ((λ j. c.extend_from_slice.new.self.items ++ c.deref.ensures.value j) ∙ ((λ j. c.in_ok-extend_from_slice.ensures.items j ++ c.in_ok-ends.ensures j) ∙ (λ j. (c.new-moved.ensures.items j ++ c.split_at.ensures.back j) ++ replicate by c.args.fill))) in
    subst (AreEdges t) (sym (c.deref-2.ensures.value ∙ moved)) (All-append (IsEdge t) (drop by row) (replicate by c.args.fill) (All-drop (IsEdge t) by row c.requires.row) (All-replicate (IsEdge t) by c.args.fill c.requires.fill))
