use Rattle.std.proofs.Common.{rules, ◌≡◌, ◌<◌, true, length, sym, subst}
use Rattle.stk_symbols.specs.Matters.{same_event, passes_at, events_of}
use Rattle.stk_symbols.proofs.Placed.{stands_there}
use Rattle.stk_symbols.proofs.step_index.StepIndex.of.Goals as goal

pub loop-step-init : goal.loop-step-init
loop-step-init c = c.empty-index.ensures (events_of c.args.steps.now)

pub loop-step-preserved : goal.loop-step-preserved
loop-step-preserved c =
    let events = events_of c.args.steps.now in
    let below : c.loop-step.step-index < length c.args.steps.now = search rules in
    c.in_ok-push.ensures events c.loop-step.step-index c.loop-step.invariant (subst (λ e. passes_at (same_event e) events c.loop-step.step-index ≡ true) (sym c.told_by.ensures) (stands_there c.args.steps.now c.loop-step.step-index _ below))
