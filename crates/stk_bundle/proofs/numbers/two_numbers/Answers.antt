use Rattle.std.proofs.lemmas.Result.{err_from_is_err_and}
use Rattle.std.proofs.Common.{[], ◌∷◌}
use Rattle.stk_bundle.specs.Numbers.{numbers_text}
use Rattle.stk_bundle.proofs.Texts.{first_number, other_numbers}
use Rattle.stk_bundle.proofs.numbers.two_numbers.Goals as goal

pub returns-in_default-clause-bad : goal.returns-in_default-clause-bad
returns-in_default-clause-bad c m n a = c.in_default.ensures m (numbers_text (n ∷ [])) (first_number c.args.text.now m (n ∷ []) a)

pub returns-in_err-second-clause-bad : goal.returns-in_err-second-clause-bad
returns-in_err-second-clause-bad c =
    let p = err_from_is_err_and c.from_residual.result c.from_residual.ensures.1 in
    rw p.1 (λ m n a. c.in_err-second.ensures.bad n (other_numbers c.args.text.now c.in-Some.behind.now c.in-Some.first m (n ∷ []) c.in-Some.ensures a).1)
