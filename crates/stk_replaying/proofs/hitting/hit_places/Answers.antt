use Rattle.std.proofs.Common.{sym, ◌∙◌}
use Rattle.stk_replaying.specs.Replaying.{hit_places}
use Rattle.stk_replaying.proofs.Positions.{hit_next, miss_next}
use Rattle.stk_replaying.proofs.hitting.hit_places.Goals.{then-has+in_ok-push, else-has}
use Rattle.stk_replaying.proofs.hitting.hit_places.Goals as goal

pub loop-at-preserved : goal.loop-at-preserved
loop-at-preserved c =
    let cs = c.args.list.now in
    let t = c.args.trace.now in
    let i = c.loop-at.at in
    let places = c.loop-at.places.items in
    let all = hit_places cs t in
    elim c.if-has.branch [
      | then-has+in_ok-push w ↦ rw (w.places-is, w.in_ok-push.ensures.items) (hit_next t cs i _ places all c.loop-at-test.true (sym (c.in_ok-marks.ensures _) ∙ sym c.has.ensures ∙ w.if-has.true) c.loop-at.invariant)
      | else-has w ↦ rw w.places-is (miss_next t cs i _ places all c.loop-at-test.true (sym (c.in_ok-marks.ensures _) ∙ sym c.has.ensures ∙ w.if-has.false) c.loop-at.invariant)
    ]
