use Rattle.std.proofs.Common.{◌≤◌}
use Rattle.stk_tree.specs.View.{view_function}
use Rattle.stk_function_types.specs.Nodes.{typing_in}
use Rattle.stk_findings.specs.Searched.{subject_searched}
use Rattle.stk_spelling.specs.Placed.{placed_in}
use Rattle.stk_unit_lines.proofs.Taking.{AreWritten}
use Rattle.stk_unit_lines.proofs.functions.write_findings.Given as goal

abbrev pub invariant-loop-at : goal.invariant-loop-at
invariant-loop-at g l =
    let s = l.searched in
    record {
      written : AreWritten (subject_searched s) (placed_in l.told.types.now) (typing_in l.told.types.now) (view_function l.told.function.now) l.told.keys.now s.candidates.now l.at l.file.options (g.K.Sink.taken l.fn.out) (g.K.Sink.taken l.out) (g.D.Decider.given_up l.fn.decider) (g.D.Decider.given_up l.decider) l.counts;
      ready : g.J.Judge.ready l.judge s;
      later : g.K.Sink.faults l.fn.out ≤ g.K.Sink.faults l.out;
    }
