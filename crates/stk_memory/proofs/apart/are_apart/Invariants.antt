use Rattle.std.proofs.Common.{◌↔◌, drop, nat_eq}
use Rattle.indexmap.specs.IndexMap.{get}
use Rattle.stk_memory.specs.Image.{AreApart}
use Rattle.stk_memory.proofs.SeenAddresses.{AreLeft}
use Rattle.stk_memory.proofs.apart.are_apart.Given as goal

abbrev pub invariant-loop-cell : goal.invariant-loop-cell
invariant-loop-cell l = AreApart l.fn.cells ↔ AreLeft (get nat_eq l.seen) (drop l.cell-index l.cells)
