use Rattle.std.proofs.Common.{◌≡◌, ◌++◌, map, drop}
use Rattle.stk_bundle.specs.Bundles.{parts_text}
use Rattle.stk_claims.specs.Parts.{alone}
use Rattle.stk_claims.proofs.parts.add_lines.Given as goal

abbrev pub invariant-loop-line : goal.invariant-loop-line
invariant-loop-line l = l.text.items ++ parts_text (map alone (drop l.line-index l.lines)) ≡ l.initial.text.items ++ parts_text (map alone l.lines)
