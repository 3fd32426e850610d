use Rattle.std.proofs.Common.{◌+◌, subst, arith}
use Rattle.std.proofs.lemmas.List.{length-drop}
use Rattle.stk_lex.specs.Gaps.{AreGaps, no_gap, more_gaps}
use Rattle.stk_lex.proofs.lexing.behind_gaps.Goals as goal

pub returns-then-n-eq0-clause-gaps : goal.returns-then-n-eq0-clause-gaps
returns-then-n-eq0-clause-gaps c = c.loop-from.invariant.gaps _ no_gap

pub loop-from-preserved : goal.loop-from-preserved
loop-from-preserved c =
    let e = c.gap-n.ensures.value in
    let text = c.args.bytes.now in
    let at = c.loop-from.at in
    record {
      within = (omega arith, omega (arith, c.gap-n.ensures.within, length-drop at text));
      gaps = λ to h. c.loop-from.invariant.gaps to (more_gaps (omega (arith, e, c.if-n-eq0.false)) (subst (λ n. AreGaps text (at + n) to) e h));
    }
