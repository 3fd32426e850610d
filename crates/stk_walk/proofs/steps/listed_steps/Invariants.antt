use Rattle.std.proofs.Common.{◌≡◌, ◌++◌, map, length}
use Rattle.stk_run_laws.specs.Listed.{AreInOrder, CandidateBefore}
use Rattle.stk_values.specs.Walks.{test_of}
use Rattle.stk_walking.specs.Events.{events_in}
use Rattle.stk_event_laws.specs.Positions.{listed_step}
use Rattle.stk_walk.specs.Steps.{AreHitsIn}
use Rattle.stk_walk.proofs.steps.listed_steps.Given as goal

abbrev pub invariant-loop-step : goal.invariant-loop-step
invariant-loop-step g l =
    (AreHitsIn l.list (events_in l.fn.steps) → AreHitsIn l.list (events_in l.rest))
    × (AreInOrder CandidateBefore l.list → AreHitsIn l.list (events_in l.fn.steps) → l.found.items ++ map (λ x. listed_step l.list x) l.rest ≡ map (λ x. listed_step l.list x) l.fn.steps)
    × (map (λ x. test_of x) l.found.items ++ map (λ x. x.test) l.rest ≡ map (λ x. x.test) l.fn.steps)

abbrev pub decreases-loop-step : goal.decreases-loop-step
decreases-loop-step g l = length l.rest
