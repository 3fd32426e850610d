use Rattle.std.proofs.Common.{◌≡◌, drop}
use Rattle.stk_meaning.specs.Memory.{put_all}
use Rattle.stk_memory.specs.Image.{memory_of, writes_of}
use Rattle.stk_memory.proofs.bytes.Bytes.put_all.Given as goal

abbrev pub invariant-loop-cell : goal.invariant-loop-cell
invariant-loop-cell l = put_all (writes_of (drop l.cell-index l.cells)) (memory_of l.self) ≡ put_all (writes_of l.fn.cells) (memory_of l.fn.self)
