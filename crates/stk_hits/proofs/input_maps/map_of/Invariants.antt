use Rattle.std.proofs.Common.{◌≡◌, ◌++◌, ◌≤◌, drop}
use Rattle.stk_hits.specs.InputMaps.{bits_in, map_at}
use Rattle.stk_hits.proofs.input_maps.map_of.Given as goal

abbrev pub invariant-loop-kind : goal.invariant-loop-kind
invariant-loop-kind l = (l.numbers.items ++ map_at (drop l.kind-index l.kinds) l.left ≡ map_at l.kinds l.number) × (l.bits ≡ bits_in (drop l.kind-index l.kinds)) × (l.bits ≤ 16)
