use Rattle.std.proofs.Common.{map, drop, ◌+◌}
use Rattle.stk_base.specs.Text.{text_of}
use Rattle.stk_numbers.proofs.Spelling.{row_refused, row_kept, first_text}
use Rattle.stk_numbers.proofs.strings.string_bytes.Goals as goal

pub returns-then-not-branch : goal.returns-then-not-branch
returns-then-not-branch c =
    row_refused c.loop-literal.found.items c.add_literal.new.found.items c.text.result.now (map (text_of c.args.bytes.now) (drop (c.loop-literal.literal-index + 1) c.args.literals.now)) (map (text_of c.args.bytes.now) (drop c.loop-literal.literal-index c.args.literals.now)) (map (text_of c.args.bytes.now) c.args.literals.now) c.in_ok-add_literal.field-0 c.if-not-branch.true c.in_ok-add_literal.ensures (first_text (text_of c.args.bytes.now) c.args.literals.now c.loop-literal.literal-index (record { from = 0; to = 0 }) c.text.result.now c.loop-literal-test.true c.text.ensures) c.loop-literal.invariant

pub loop-literal-preserved : goal.loop-literal-preserved
loop-literal-preserved c =
    row_kept c.loop-literal.found.items c.add_literal.new.found.items c.text.result.now (map (text_of c.args.bytes.now) (drop (c.loop-literal.literal-index + 1) c.args.literals.now)) (map (text_of c.args.bytes.now) (drop c.loop-literal.literal-index c.args.literals.now)) (map (text_of c.args.bytes.now) c.args.literals.now) c.in_ok-add_literal.field-0 c.if-not-branch.false c.in_ok-add_literal.ensures (first_text (text_of c.args.bytes.now) c.args.literals.now c.loop-literal.literal-index (record { from = 0; to = 0 }) c.text.result.now c.loop-literal-test.true c.text.ensures) c.loop-literal.invariant
