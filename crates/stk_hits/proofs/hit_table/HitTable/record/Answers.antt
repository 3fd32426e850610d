use Rattle.std.proofs.Common.{rules, ◌≡◌, ◌≤◌, length, sym, ap, ◌∙◌, subst, take, arith}
use Rattle.std.proofs.Math.Seq.{take-length}
use Rattle.stk_hits.specs.Tables.{Describes, nothing}
use Rattle.stk_hits.proofs.Passing.{finished}
use Rattle.stk_hits.proofs.hit_table.HitTable.record.Goals as goal

pub loop-entry-init : goal.loop-entry-init
loop-entry-init c = (omega arith, λ runs d is. (d, nothing))

pub returns : goal.returns
returns c runs d is =
    let ended : c.loop-entry.entry-index ≡ length c.args.trace.now = search rules in
    let whole : take c.loop-entry.entry-index c.args.trace.now ≡ c.args.trace.now = ap (λ n. take n c.args.trace.now) ended ∙ take-length c.args.trace.now in
    finished runs c.args.trace.now c.loop-entry.self (subst (λ u. Describes runs u c.loop-entry.self) whole (c.loop-entry.invariant.1 runs d is).0)
