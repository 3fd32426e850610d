use Rattle.std.proofs.Common.{List, ◌++◌, map, ap, ◌∙◌}
use Rattle.stk_bundle.specs.declared.line.BundleLine.{BundleLine}
use Rattle.stk_bundle.specs.Bundles.{parts_text}
use Rattle.stk_bundle.specs.Claims.{report_lines}
use Rattle.stk_claims.specs.Parts.{alone, closing_parts}
use Rattle.stk_claims.proofs.Texts.{more_added}
use Rattle.stk_claims.proofs.parts.add_claim.Goals as goal

pub returns : goal.returns
returns c =
    let r = c.args.report.now in
    let old = c.args.text.now.items in
    more_added old c.add_lines.new.text.items c.add_closing.new.text.items (map alone (report_lines c.args.function.now.kinds.now r.candidate r.start.now r.needs.now)) (closing_parts c.args.closing.now)
    (c.in_ok-add_lines.ensures ∙ ap (λ (ls : List BundleLine). old ++ parts_text (map alone ls)) (c.as_slice.ensures.value ∙ c.in_ok-lines.ensures)) c.in_ok-add_closing.ensures
