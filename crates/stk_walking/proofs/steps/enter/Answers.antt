use Rattle.std.proofs.Common.{[], ◌∷◌, ◌++◌, subst, refl}
use Rattle.stk_ctype.specs.declared.kind.IntKind.TheVariants.{Int}
use Rattle.stk_numbers.specs.declared.conditions.CandKind.TheVariants.{Arm}
use Rattle.stk_walking.specs.Events.{Live, hit, events_of}
use Rattle.stk_walking.proofs.Carried.{live_more, steps_more, events_entered, events_more}
use Rattle.stk_walking.proofs.steps.enter.Goals as goal

pub returns-clause-made : goal.returns-clause-made
returns-clause-made g c = λ G a. record {
  guard = a.guard;
  broken = a.broken;
  continued = a.continued;
  registers = a.registers;
  cells = a.cells;
  steps = rw c.in_ok-push.ensures.items (steps_more (g.V.Values.made c.args.values.now) c.args.state.now.steps.items _ a.steps a.guard);
}

pub returns-clause-stands : goal.returns-clause-stands
returns-clause-stands g c = λ G m s a.
    let now = g.V.Values.shows c.args.values.now m Int in
    record {
      guard = a.guard;
      broken = a.broken;
      continued = a.continued;
      numbers = a.numbers;
      kept = a.kept;
      events = rw c.in_ok-push.ensures.items (subst (Live now (c.args.state.now.steps.items ++ record { event = hit c.args.node Arm; test = c.args.state.now.guard } ∷ [])) (events_entered s.alive s.entries c.args.node) (live_more now c.args.state.now.steps.items (events_of s.entries) (record { event = hit c.args.node Arm; test = c.args.state.now.guard }) s.alive a.events a.guard));
    }

pub returns-clause-events : goal.returns-clause-events
returns-clause-events g c = rw c.in_ok-push.ensures.items (events_more c.args.state.now.steps.items (record { event = hit c.args.node Arm; test = c.args.state.now.guard }))

pub returns-clause-cells : goal.returns-clause-cells
returns-clause-cells g c = refl
