use Rattle.std.proofs.Common.{◌∙◌}
use Rattle.stk_symbols.proofs.Made.{obeys_before as B}
use Rattle.stk_symbols.proofs.Truths.{choice}
use Rattle.stk_symbols.proofs.comparing.choose.Goals as goal

pub returns-clause-value : goal.returns-clause-value
returns-clause-value c = λ numbers b o e.
    let o1 = B _ _ _ numbers c.in_ok-v.ensures.grown o in
    c.in_ok-v.ensures.value numbers o ∙ choice (numbers c.in_ok-t.t.0) b (numbers c.args.yes.0) (numbers c.args.no.0) (c.in_ok-t.ensures.value numbers b o1 e)
