use Rattle.std.proofs.Common.{sym, subst}
use Rattle.stk_findings.specs.Asked.{AreNever}
use Rattle.stk_findings.proofs.Nevers.{none_remembered}
use Rattle.stk_findings.proofs.goals.FunctionGoals.new.Goals as goal

pub invariant_of-result : goal.invariant_of-result
invariant_of-result c =
    let now = c.in_ok-walked.walked.symbols in
    record {
      kinds_are = c.in_ok-walked.ensures.kinds;
      goals = c.in_ok-walked.ensures.goals;
      never = subst (AreNever now.terms) (sym c.new.ensures.items) (none_remembered now.terms);
    }
