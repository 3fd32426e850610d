use Rattle.std.proofs.Common.{◌∷◌, ap, sym, ◌∙◌, arith}
use Rattle.std.proofs.lemmas.Fmt.{decimal_injective}
use Rattle.stk_replay_script.proofs.Numerals.{not_behind_sign}
use Rattle.stk_replay_script.proofs.numbers.signed_number_in.Goals as goal

pub returns-in_err-number-in-Some : goal.returns-in_err-number-in-Some
returns-in_err-number-in-Some c =
    rw c.from_residual.ensures
    (not_behind_sign c.args.text.now c.in-Some.digits.now (c.in-Some.ensures.cases.0 ∙ ap (λ b. b ∷ c.in-Some.digits.now) c.if-first-eq45.true) (λ n some small e. c.in_err-number-in-Some.ensures n (omega arith) e))

pub returns-else-number-gt0 : goal.returns-else-number-gt0
returns-else-number-gt0 c =
    not_behind_sign c.args.text.now c.in-Some.digits.now (c.in-Some.ensures.cases.0 ∙ ap (λ b. b ∷ c.in-Some.digits.now) c.if-first-eq45.true)
    (λ n some small e. let same = decimal_injective c.in_ok-number-in-Some.number n (omega arith) (omega arith) (sym c.in_ok-number-in-Some.ensures ∙ e) in omega (arith, same, c.else-number-gt0.either))
