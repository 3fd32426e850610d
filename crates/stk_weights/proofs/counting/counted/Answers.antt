use Rattle.std.proofs.Common.{◌+◌, ℕ, List, drop, sym, subst, arith}
use Rattle.stk_weights.specs.declared.events.Event.{Event}
use Rattle.stk_weights.specs.declared.events.Event.TheVariants as event
use Rattle.stk_weights.specs.Counting.{IsCounting}
use Rattle.stk_weights.proofs.Steps.{none_passed, all_passed}
use Rattle.stk_weights.proofs.Ends.{drop_none, next_at}
use Rattle.stk_weights.proofs.counting.counted.Goals as goal

pub loop-place-init : goal.loop-place-init
loop-place-init c =
    subst (λ (xs : List ℕ). IsCounting c.args.registers.now c.args.events.now c.args.events.now 0 c.in_ok-rows.rows.items xs 0) (sym c.new-begins.ensures.items)
    (none_passed c.args.registers.now c.args.events.now c.in_ok-rows.rows.items c.in_ok-rows.ensures.counts c.in_ok-rows.ensures.lasts c.in_ok-rows.ensures.known)

pub loop-place-preserved : goal.loop-place-preserved
loop-place-preserved c =
    let i = c.loop-place.place in
    let es = c.args.events.now in
    c.in_ok-sum.ensures c.args.registers.now es (drop (i + 1) es)
    (subst (λ (rest : List Event). IsCounting c.args.registers.now es rest i c.loop-place.rows.items c.loop-place.begins.items c.loop-place.sum) (next_at es i event.Begins (omega arith)) c.loop-place.invariant)

pub returns : goal.returns
returns c =
    let i = c.loop-place.place in
    let es = c.args.events.now in
    all_passed c.args.registers.now es i c.loop-place.rows.items c.loop-place.begins.items c.loop-place.sum
    (subst (λ (rest : List Event). IsCounting c.args.registers.now es rest i c.loop-place.rows.items c.loop-place.begins.items c.loop-place.sum) (drop_none es i (omega arith)) c.loop-place.invariant)
