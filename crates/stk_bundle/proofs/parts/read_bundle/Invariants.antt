use Rattle.std.proofs.Common.{map, length}
use Rattle.stk_bundle.specs.Bundles.{line_block, AreParts}
use Rattle.stk_bundle.proofs.parts.read_bundle.Given as goal

abbrev pub invariant-lines : goal.invariant-lines
invariant-lines l = AreParts l.text (map line_block l.parts.items) l.stage l.rest

abbrev pub decreases-lines : goal.decreases-lines
decreases-lines l = length l.rest
