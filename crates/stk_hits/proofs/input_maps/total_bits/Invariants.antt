use Rattle.std.proofs.Common.{◌≡◌, ◌+◌, drop}
use Rattle.stk_hits.specs.InputMaps.{bits_in}
use Rattle.stk_hits.proofs.input_maps.total_bits.Given as goal

abbrev pub invariant-loop-kind : goal.invariant-loop-kind
invariant-loop-kind l = l.bits + bits_in (drop l.kind-index l.kinds) ≡ bits_in l.kinds
