use Rattle.std.proofs.Common.{◌≡◌, ◌++◌, take, drop, ap, ◌∙◌}
use Rattle.stk_arith.specs.Rows.{number}
use Rattle.stk_arith.proofs.BitParts.{number-cut}
use Rattle.stk_arith.proofs.shapes.cut.Goals as goal

pub returns-clause-value : goal.returns-clause-value
returns-clause-value c gates =
    let row = c.args.row.now in
    let part : c.extend_from_slice.new.self.items ≡ take c.args.width (drop c.args.low row) =
    c.in_ok-extend_from_slice.ensures.items ∙ ((λ j. c.new-part.ensures.items j ++ c.split_at-2.ensures.front j) ∙ ap (take c.args.width) c.split_at.ensures.back) in
    ap (number gates) c.from_vec.ensures ∙ number-cut gates row _ c.args.low c.args.width c.requires part
