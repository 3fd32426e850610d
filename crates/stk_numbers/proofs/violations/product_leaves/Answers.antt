use Rattle.std.proofs.Common.{ap}
use Rattle.std.specs.Prelude.{not}
use Rattle.stk_numbers.proofs.Machine.{product_again, product_tested}
use Rattle.stk_numbers.proofs.violations.product_leaves.Goals as goal

pub overflow_mul-left : goal.overflow_mul-left
overflow_mul-left c = product_again c.args.kind c.args.left c.args.right c.requires.signed c.requires.left c.requires.right

pub returns : goal.returns
returns c = ap not (product_tested c.args.kind c.args.left c.args.right c.fits.result c.requires.signed c.requires.left c.requires.right c.fits.ensures)
