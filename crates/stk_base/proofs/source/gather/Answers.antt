use Rattle.std.proofs.Common.{length, refl, arith, rules}
use Rattle.stk_base.proofs.Runs.{came_more, brings_over, stays_near, stays_within, not_too_large}
use Rattle.stk_base.proofs.source.gather.Goals as goal

pub returns-then-count-limit-clause-too_large : goal.returns-then-count-limit-clause-too_large
returns-then-count-limit-clause-too_large g c =
    let came = came_more _ _ _ _ _ c.loop-bytes.invariant.came c.in_ok-count.ensures.bytes in
    let over = brings_over c.loop-bytes.bytes.items c.read.new.piece c.in_ok-count.count c.args.limit (search rules) (omega arith) in
    (_, came, (λ _. over, λ _. refl), stays_near c.loop-bytes.bytes.items c.read.new.piece c.in_ok-count.count c.args.limit (length c.args.piece.now) c.loop-bytes.invariant.within (omega (arith, c.in_ok-count.ensures.bound)))

pub returns-in_err-extend_from_slice-clause-too_large :
    goal.returns-in_err-extend_from_slice-clause-too_large
returns-in_err-extend_from_slice-clause-too_large g c =
    let came = came_more _ _ _ _ _ c.loop-bytes.invariant.came c.in_ok-count.ensures.bytes in
    let within = stays_within c.loop-bytes.bytes.items c.read.new.piece c.in_ok-count.count c.args.limit c.loop-bytes.invariant.within (search rules) (omega arith) in
    let told = c.from_residual-in_err-extend_from_slice.ensures.1 in
    (_, came, (λ large. absurd (not_too_large _ told large), λ over. absurd (omega (arith, over, within))), omega (arith, within))
