use Rattle.std.proofs.Common.{◌<◌, length, sym, subst, ◌∙◌}
use Rattle.std.specs.declared.option.Option.{Option}
use Rattle.std.specs.Prelude.{ℕ}
use Rattle.stk_symbols.specs.Matters.{events_of, event_in}
use Rattle.stk_symbols.proofs.Chained.{Listing, end_of, listing_of, listing_more, before_listed, lower_next}
use Rattle.stk_symbols.proofs.indexed_walk.IndexedWalk.list.Goals as goal

pub loop-at-init : goal.loop-at-init
loop-at-init c =
    let steps = c.args.self.now.walked.steps in
    listing_of steps (event_in c.args.event) c.args.places.now.items c.last-at.result (c.last-at.ensures (events_of steps) (length steps) c.args.self.now.indexed)

pub loop-at-smaller : goal.loop-at-smaller
loop-at-smaller c =
    let steps = c.args.self.now.walked.steps in
    let e = event_in c.args.event in
    let old = c.args.places.now.items in
    let now = c.loop-at.places.items in
    let l = subst (λ (o : Option ℕ). Listing (events_of steps) e old now o) c.in-Some.is c.loop-at.invariant in
    let is = c.index-at.ensures ∙ before_listed c.args.self.now.index steps e old now c.in-Some.place _ c.args.self.now.indexed l in
    subst (λ (o : Option ℕ). end_of c.index-at.result.now < end_of o) (sym c.in-Some.is) (lower_next (events_of steps) e c.in-Some.place c.index-at.result.now is)

pub loop-at-preserved : goal.loop-at-preserved
loop-at-preserved c =
    let steps = c.args.self.now.walked.steps in
    let e = event_in c.args.event in
    let old = c.args.places.now.items in
    let now = c.loop-at.places.items in
    let l = subst (λ (o : Option ℕ). Listing (events_of steps) e old now o) c.in-Some.is c.loop-at.invariant in
    let is = c.index-at.ensures ∙ before_listed c.args.self.now.index steps e old now c.in-Some.place _ c.args.self.now.indexed l in
    listing_more (events_of steps) e old now c.push.new.self.items c.in-Some.place c.index-at.result.now l is c.in_ok-push.ensures.items
