use Rattle.std.proofs.Common.{◌≡◌, IsUtf8, decimal, sym, ap, ◌∙◌, subst}
use Rattle.std.proofs.lemmas.Bool.{true≢false}
use Rattle.std.proofs.lemmas.Fmt.{IsAscii-decimal, parse-decimal}
use Rattle.std.proofs.lemmas.Str.{IsUtf8-from_ascii}
use lib.Pointwise.{bytes_decides}
use Rattle.stk_line_reading.proofs.numbers.number_in.Goals as goal

pub returns-in_default : goal.returns-in_default
returns-in_default c n small same = c.in_default.ensures.cases.0 (subst IsUtf8 (sym same) (IsUtf8-from_ascii (decimal n) (IsAscii-decimal n small)))

pub returns-in_default-parse : goal.returns-in_default-parse
returns-in_default-parse c n small same =
    c.in_default-parse.not-Ok n (parse-decimal 64 n c.in-Ok.digits.now c.parse.result small small (c.in-Ok.ensures.cases.0 ∙ same) c.parse.ensures.value.0)

pub returns-else-eq : goal.returns-else-eq
returns-else-eq c n small same =
    let read = parse-decimal 64 n c.in-Ok.digits.now c.parse.result small small (c.in-Ok.ensures.cases.0 ∙ same) c.parse.ensures.value.0 in
    let number : c.in-Ok-parse.number ≡ n = cc (read, c.in-Ok-parse.is) in
    let written : c.as_bytes.result.now ≡ c.args.text.now = c.as_bytes.ensures.value ∙ (c.format.ensures.text ∙ (ap decimal number ∙ sym same)) in
    true≢false (sym ((bytes_decides c.as_bytes.result.now c.args.text.now).1 written) ∙ (sym c.eq.ensures ∙ c.if-eq.false))
