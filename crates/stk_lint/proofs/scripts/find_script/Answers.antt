use Rattle.stk_lint.proofs.Found.{found_in}
use Rattle.stk_lint.proofs.scripts.find_script.Goals as goal

pub returns : goal.returns
returns c = found_in c.args.file.now.input.now c.args.file.now.options.without c.args.units.now.tokens c.args.units.now.pieces.items c.args.asked c.in_ok-found.found c.requires.are (rw (c.as_slice.ensures, c.as_slice-2.ensures.value) at c.in_ok-found.ensures)
