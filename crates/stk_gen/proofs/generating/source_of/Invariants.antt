use Rattle.std.proofs.Common.{◌≡◌}
use Rattle.stk_gen.specs.Generated.{state_before, source_of}
use Rattle.stk_gen.proofs.generating.source_of.Given as goal

abbrev pub invariant-loop-place : goal.invariant-loop-place
invariant-loop-place l = (l.text.items ≡ source_of l.fn.number l.place) × (l.draws.state ≡ state_before l.fn.number l.place)
