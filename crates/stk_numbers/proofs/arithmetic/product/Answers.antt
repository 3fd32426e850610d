use Rattle.std.proofs.Common.{sym, ◌∙◌}
use Rattle.stk_numbers.proofs.Machine.{product_again, product_value}
use Rattle.stk_numbers.proofs.arithmetic.product.Goals as goal

pub overflow_mul-left : goal.overflow_mul-left
overflow_mul-left c = product_again c.args.kind c.args.left c.args.right (sym c.signed.ensures ∙ c.if-signed.true) c.requires.left c.requires.right

pub returns-then-signed : goal.returns-then-signed
returns-then-signed c = product_value c.args.kind c.args.left c.args.right c.wrap.result (sym c.signed.ensures ∙ c.if-signed.true) c.requires.left c.requires.right c.wrap.ensures
