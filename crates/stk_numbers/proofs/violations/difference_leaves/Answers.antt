use Rattle.std.proofs.Common.{ap}
use Rattle.std.specs.Prelude.{not}
use Rattle.stk_numbers.proofs.Machine.{difference_tested}
use Rattle.stk_numbers.proofs.violations.difference_leaves.Goals as goal

pub returns : goal.returns
returns c = ap not (difference_tested c.args.kind c.args.left c.args.right c.fits.result c.requires.left c.requires.right c.fits.ensures)
