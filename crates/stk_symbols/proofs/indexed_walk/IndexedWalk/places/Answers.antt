use Rattle.std.proofs.Common.{rules, ◌<◌, ◌≤◌, ◌+◌, ◌||◌, List, length, drop, get_or, ap, ◌∙◌, nat_eq}
use Rattle.std.specs.Prelude.{ℕ}
use Rattle.std.specs.List.{list_any}
use Rattle.stk_values.specs.Walks.{is_hit}
use Rattle.stk_symbols.specs.Matters.{same_event, passes_at, events_of}
use Rattle.stk_symbols.proofs.Chained.{collecting_begins, collecting_more, collecting_ends}
use Rattle.stk_symbols.proofs.Picking.{drop_more, nothing_left}
use Rattle.stk_symbols.proofs.indexed_walk.IndexedWalk.places.Goals as goal

pub loop-condition-init : goal.loop-condition-init
loop-condition-init c =
    let events = events_of c.args.self.now.walked.steps in
    let k = c.args.candidate in
    collecting_begins events c.args.set.now k c.list.new.places.items (λ q. c.in_ok-list.ensures q ∙ ap (λ (l : List ℕ). list_any (nat_eq q) l || passes_at (same_event (is_hit k)) events q) c.new-places.ensures.items)

pub loop-condition-preserved : goal.loop-condition-preserved
loop-condition-preserved c =
    let events = events_of c.args.self.now.walked.steps in
    let set = c.args.set.now in
    let i = c.loop-condition.condition-index in
    let below : i < length set = search rules in
    collecting_more events set c.args.candidate c.loop-condition.places.items c.list-in-loop-condition.new.places.items (drop i set) (drop (i + 1) set) (get_or set i _) (drop_more set i _ below) c.loop-condition.invariant c.in_ok-list-2.ensures

pub returns : goal.returns
returns c =
    let set = c.args.set.now in
    let i = c.loop-condition.condition-index in
    let done : length set ≤ i = search rules in
    collecting_ends (events_of c.args.self.now.walked.steps) set c.args.candidate c.loop-condition.places.items (drop i set) (nothing_left set i done) c.loop-condition.invariant
