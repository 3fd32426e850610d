use Rattle.std.proofs.Common.{decimal, sym, ◌∙◌, arith}
use Rattle.std.proofs.lemmas.Fmt.{decimal_injective}
use Rattle.stk_replay_script.proofs.FieldTexts.{one_field}
use Rattle.stk_replay_script.proofs.fields.number_field.Goals as goal

pub returns-in_err-number : goal.returns-in_err-number
returns-in_err-number c =
    rw c.from_residual-in_err-number.ensures (λ n behind h.
    let low = h.fits in
    let same = one_field c.args.word.now c.args.text.now c.in_ok-content.content.now c.in_ok-content.behind.now (decimal n) behind c.in_ok-content.ensures h.field in
    c.in_err-number.ensures n (omega arith) same.0)

pub returns-else-number-most : goal.returns-else-number-most
returns-else-number-most c n behind h =
    let low = h.fits in
    let same = one_field c.args.word.now c.args.text.now c.in_ok-content.content.now c.in_ok-content.behind.now (decimal n) behind c.in_ok-content.ensures h.field in
    let number = decimal_injective c.in_ok-number.number n (omega arith) (omega arith) (sym c.in_ok-number.ensures ∙ same.0) in
    omega (arith, c.if-number-most.false)
