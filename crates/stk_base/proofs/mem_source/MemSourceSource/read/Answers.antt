use Rattle.std.proofs.Common.{Some, ap, sym, arith}
use Rattle.stk_base.specs.MemoryStreams.{SourceState}
use Rattle.stk_base.proofs.Runs.{copied}
use Rattle.stk_base.proofs.mem_source.MemSourceSource.read.Goals as goal

pub returns-clause-bytes : goal.returns-clause-bytes
returns-clause-bytes c =
    let left : SourceState → _ = λ s. s.left in
    let here = ap left (sym c.self.view_is) in
    ap Some (copied c.min-count.result c.self.inside.at c.self.inside.bytes.items c.deref-2.result.now c.args.self.now.left c.copy_from_slice.new.self _ here c.deref-2.ensures.value (omega (arith, c.min-count.ensures)) c.copy_from_slice.ensures.after)
