use Rattle.std.proofs.Common.{[], arith}
use Rattle.stk_bundle.specs.Numbers.{numbers_text}
use Rattle.stk_bundle.proofs.Texts.{first_number, none_behind, alone}
use Rattle.stk_bundle.proofs.numbers.one_number.Goals as goal

pub returns-in_default-clause-bad : goal.returns-in_default-clause-bad
returns-in_default-clause-bad c n h = c.in_default.ensures n (numbers_text []) (first_number c.args.text.now n [] h)

pub returns-then-is_empty-clause-ok : goal.returns-then-is_empty-clause-ok
returns-then-is_empty-clause-ok c = alone c.args.text.now c.in-Some.behind.now c.in-Some.number c.in-Some.ensures (grind (arith, c.is_empty.ensures, c.if-is_empty.true))

pub returns-else-is_empty-clause-bad : goal.returns-else-is_empty-clause-bad
returns-else-is_empty-clause-bad c n h =
    let none = none_behind c.args.text.now c.in-Some.behind.now c.in-Some.number n c.in-Some.ensures h in
    grind (arith, none, c.is_empty.ensures, c.if-is_empty.false)
