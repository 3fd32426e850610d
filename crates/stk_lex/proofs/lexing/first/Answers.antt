use Rattle.std.proofs.Common.{◌<◌, sym, ◌∙◌, arith}
use Rattle.stk_lex.proofs.First.{stray_quote, stray_comment, first_form, stray_byte}
use Rattle.stk_lex.proofs.lexing.first.Goals as goal

pub returns-then-is_open_quote : goal.returns-then-is_open_quote
returns-then-is_open_quote c =
    let bs = c.args.bytes.now in
    let known = rw (c.character_length-character.ensures.value, c.text_length-text.ensures.value) at c.is_open_quote.ensures in
    rw c.line.ensures.value (stray_quote bs (rw c.line.ensures.value at c.line.ensures.within) (sym known ∙ c.if-is_open_quote.true))

pub returns-then-begins_comment : goal.returns-then-begins_comment
returns-then-begins_comment c =
    let begun = sym c.begins_comment.ensures ∙ c.if-begins_comment.true in
    stray_comment c.args.bytes.now begun (c.requires.open begun)

pub returns-then-n-eq0 : goal.returns-then-n-eq0
returns-then-n-eq0 c =
    let known = rw (c.character_length-character.ensures.value, c.text_length-text.ensures.value) at c.is_open_quote.ensures in
    stray_byte c.args.bytes.now c.requires.some (sym c.form-class.ensures.length ∙ c.if-n-eq0.true) (sym known ∙ c.if-is_open_quote.false) (sym c.begins_comment.ensures ∙ c.if-begins_comment.false)

pub returns : goal.returns
returns c =
    let known = rw (c.character_length-character.ensures.value, c.text_length-text.ensures.value) at c.is_open_quote.ensures in
    let some : 0 < c.form-class.result.1 = omega (arith, c.if-n-eq0.false) in
    first_form c.args.bytes.now c.form-class.result.0 c.form-class.result.1 c.form-class.ensures.length some (c.form-class.ensures.class some) (sym known ∙ c.if-is_open_quote.false) (sym c.begins_comment.ensures ∙ c.if-begins_comment.false)
