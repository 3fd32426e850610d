use Rattle.std.proofs.Common.{◌≤◌}
use Rattle.stk_findings.specs.Searched.{about_searched, subject_searched}
use Rattle.stk_bundles.proofs.Growing.{AreWritten}
use Rattle.stk_bundles.proofs.functions.write_claims.Given as goal

abbrev pub invariant-loop-at : goal.invariant-loop-at
invariant-loop-at g l =
    let s = l.searched in
    let a = about_searched s in
    record {
      written : AreWritten (subject_searched s) a.typing a.without a.tree s.budget l.place.at s.candidates.now l.at (g.K.Sink.taken l.fn.out) (g.K.Sink.taken l.out) (g.D.Decider.given_up l.fn.decider) (g.D.Decider.given_up l.decider) l.begun l.counts;
      ready : g.J.Judge.ready l.judge s;
      later : g.K.Sink.faults l.fn.out ≤ g.K.Sink.faults l.out;
    }
