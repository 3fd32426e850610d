use Rattle.std.proofs.Common.{◌∙◌, ap, nat_eq, if◌then◌else◌}
use Rattle.stk_symbols.proofs.Made.{obeys_before as B}
use Rattle.stk_symbols.proofs.Magnitudes.{turned_choice}
use Rattle.stk_symbols.proofs.dividing.turned.Goals as goal

pub returns-clause-value : goal.returns-clause-value
returns-clause-value c = λ numbers b o e.
    let o1 = B _ _ _ numbers c.in_ok-v.ensures.grown o in
    c.in_ok-v.ensures.value numbers o ∙ (ap (λ n. if nat_eq (numbers c.args.test.0) 1 then n else numbers c.args.value.0) (c.in_ok-other.ensures.value numbers o1) ∙ turned_choice c.args.width (numbers c.args.value.0) (numbers c.args.test.0) b e)
