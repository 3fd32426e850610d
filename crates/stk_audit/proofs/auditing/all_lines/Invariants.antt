use Rattle.std.proofs.Common.{◌≡◌, length}
use Rattle.stk_audit.specs.Hands.{hand_of}
use Rattle.stk_audit.specs.Progressing.{known_in}
use Rattle.stk_audit.proofs.Turns.{Audited}
use Rattle.stk_audit.proofs.auditing.all_lines.Given as goal

abbrev pub invariant-lines : goal.invariant-lines
invariant-lines g l = record {
  audited : Audited (g.A.Answering.world (g.A.Answering.about l.fn.answering)) l.fn.bundle l.stage l.progress l.rest;
  hand : g.A.Answering.hand l.answering ≡ hand_of (known_in l.progress);
  about : g.A.Answering.about l.answering ≡ g.A.Answering.about l.fn.answering;
}

abbrev pub decreases-lines : goal.decreases-lines
decreases-lines g l = length l.rest
