use Rattle.std.proofs.Common.{List, [], ◌++◌, subst, if◌then◌else◌}
use Rattle.stk_ctype.specs.declared.kind.IntKind.TheVariants.{Int}
use Rattle.stk_meaning.specs.Operations.{Test}
use Rattle.stk_meaning.specs.Conditions.{violated}
use Rattle.stk_walking.specs.Events.{Live, events_of}
use Rattle.stk_walking.specs.NodeTests.{kept_of, maybe_tests}
use Rattle.stk_walking.proofs.Listed.{operands_shown}
use Rattle.stk_walking.proofs.Violated.{both_violated}
use Rattle.stk_walking.proofs.Costing.{sum_most}
use Rattle.stk_walking.proofs.conditions.push_tests.Goals as goal

pub push_maybe-requires-clause-asked : goal.push_maybe-requires-clause-asked
push_maybe-requires-clause-asked g c = c.listed.ensures.first c.args.operands.first.kind c.requires.asked

pub push_maybe-requires-2-clause-asked : goal.push_maybe-requires-2-clause-asked
push_maybe-requires-2-clause-asked g c = c.listed.ensures.second c.args.operands.first.kind c.requires.asked

pub returns-clause-live : goal.returns-clause-live
returns-clause-live g c = λ m b x y z t served hg h live.
    let shows = g.V.Values.shows in
    let w = c.args.without in
    let n = c.args.node in
    let k1 = c.in_ok-push_maybe.ensures.keeps in
    let ts = maybe_tests c.listed.result.0 in
    let us = maybe_tests c.listed.result.1 in
    let now = shows c.push_maybe-2.new.values m Int in
    let items = c.push_maybe-2.new.steps.items in
    let middle = t ++ (if b then events_of (violated n (kept_of w ts) x y z) else []) in
    let first = c.in_ok-push_maybe.ensures.live m b x y z t served hg h live in
    let kept = operands_shown (shows c.args.values.now m) (shows c.push_maybe.new.values m) (k1.shown m) c.args.operands x y z h in
    let second = c.in_ok-push_maybe-2.ensures.live m b x y z middle (k1.served m served) (k1.shown m _ _ _ hg) kept first in
    subst (λ (l : List Test). Live now items (t ++ (if b then events_of (violated n (kept_of w l) x y z) else []))) c.listed.ensures.is
    (subst (Live now items) (both_violated w n ts us x y z b t) second)

pub returns-clause-charge : goal.returns-clause-charge
returns-clause-charge g c = sum_most _ _ _ _ _ _ c.in_ok-push_maybe.ensures.charge c.in_ok-push_maybe-2.ensures.charge (c.listed.ensures.charge c.args.operands.first.kind c.args.operands.second.kind)
