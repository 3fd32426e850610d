use Rattle.std.proofs.lemmas.Result.{err_from_is_err_and}
use Rattle.std.proofs.Common.{◌∷◌}
use Rattle.stk_bundle.specs.Numbers.{numbers_text}
use Rattle.stk_bundle.proofs.Texts.{first_number, other_numbers}
use Rattle.stk_bundle.proofs.numbers.two_and_more.Goals as goal

pub returns-in_default-clause-bad : goal.returns-in_default-clause-bad
returns-in_default-clause-bad c is m n ns a = c.in_default.ensures m (numbers_text (n ∷ ns)) (first_number c.args.text.now m (n ∷ ns) a)

pub returns-in_default-next_number-clause-bad : goal.returns-in_default-next_number-clause-bad
returns-in_default-next_number-clause-bad c is m n ns a =
    c.in_default-next_number.ensures n (numbers_text ns) (first_number c.in-Some.behind.now n ns (other_numbers c.args.text.now c.in-Some.behind.now c.in-Some.first m (n ∷ ns) c.in-Some.ensures a).1)

pub returns-in_err-others-clause-bad : goal.returns-in_err-others-clause-bad
returns-in_err-others-clause-bad c =
    let p = err_from_is_err_and c.from_residual.result c.from_residual.ensures.1 in
    rw (p.1, p.2) (λ is m n ns a.
    let others = (other_numbers c.args.text.now c.in-Some.behind.now c.in-Some.first m (n ∷ ns) c.in-Some.ensures a).1 in
    c.in_err-others.ensures.bad is ns (other_numbers c.in-Some.behind.now c.in-Some-next_number.rest.now c.in-Some-next_number.second n ns c.in-Some-next_number.ensures others).1)
