use Rattle.std.proofs.Common.{◌≡◌, ◌≤◌, sym, subst, arith}
use Rattle.stk_spent_queries.specs.Marks.{marks, AreCounted}
use Rattle.stk_spent_queries.proofs.Counting.{counted_none}
use Rattle.stk_findings.specs.Searched.{about_searched}
use Rattle.stk_findings.proofs.Narrow.{weaker}
use Rattle.stk_findings.proofs.Sifting.{clear_finding, counted_unmarked, ready_still}
use Rattle.stk_findings.proofs.by_maps.SiftedMapsJudge.finding.Goals as goal

pub tried_finding-requires : goal.tried_finding-requires
tried_finding-requires g c = c.requires.ready.tried c.in-Some.maps c.in-Some.is

pub returns-in-Some-clause-counted : goal.returns-in-Some-clause-counted
returns-in-Some-clause-counted g c =
    let n = g.D.Decider.given_up c.args.decider.now in
    weaker c.tried_finding.result (λ x. marks x ≡ 0) (λ x. AreCounted n n (marks x)) (counted_unmarked n n (omega arith)) c.tried_finding.ensures.unmarked

pub returns-in-Some-clause-ready : goal.returns-in-Some-clause-ready
returns-in-Some-clause-ready g c = ready_still c.tried_finding.result _ c.requires.ready

pub returns-then-branch-clause-lawful : goal.returns-then-branch-clause-lawful
returns-then-branch-clause-lawful g c =
    let s = c.args.searched.now in
    let a = about_searched s in
    clear_finding a.typing a.without a.tree s.budget c.args.candidate (c.in_ok-is_clear.ensures.clear c.if-branch.true)

pub returns-then-branch-clause-counted : goal.returns-then-branch-clause-counted
returns-then-branch-clause-counted g c = counted_none (g.D.Decider.given_up c.args.decider.now) (g.D.Decider.given_up c.is_clear.new.decider) c.in_ok-is_clear.ensures.later

pub returns-then-branch-clause-ready : goal.returns-then-branch-clause-ready
returns-then-branch-clause-ready g c = record { few = c.requires.ready.few; asks = c.in_ok-is_clear.ensures.ready; tried = c.requires.ready.tried }

pub run_maps-requires : goal.run_maps-requires
run_maps-requires g c = record { few = c.requires.ready.few; asks = c.in_ok-is_clear.ensures.ready; tried = c.requires.ready.tried }

pub returns-clause-counted : goal.returns-clause-counted
returns-clause-counted g c =
    let before = g.D.Decider.given_up c.args.decider.now in
    let now = g.D.Decider.given_up c.is_clear.new.decider in
    weaker c.run_maps.result (λ x. marks x ≡ 0) (λ x. AreCounted before now (marks x)) (counted_unmarked before now c.in_ok-is_clear.ensures.later) c.run_maps.ensures.unmarked
