use Rattle.std.proofs.Common.{◌≡◌, ◌++◌, ap, ◌∙◌}
use Rattle.stk_arith.specs.Rows.{number}
use Rattle.stk_arith.proofs.BitParts.{number-joined}
use Rattle.stk_arith.proofs.shapes.joined.Goals as goal

pub returns-clause-value : goal.returns-clause-value
returns-clause-value c gates =
    let high = c.args.high.now in
    let low = c.args.low.now in
    let all : c.extend_from_slice-2.new.self.items ≡ low ++ high =
    c.in_ok-extend_from_slice-2.ensures.items ∙ ap (λ l. l ++ high) (c.in_ok-extend_from_slice.ensures.items ∙ ap (λ l. l ++ low) c.new-row.ensures.items) in
    ap (number gates) c.from_vec.ensures ∙ number-joined gates high low _ all
