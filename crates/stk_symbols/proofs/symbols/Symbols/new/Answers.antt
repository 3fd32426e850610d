use Rattle.std.proofs.Common.{subst, sym}
use Rattle.stk_terms.specs.Fitting.{AreWidths}
use Rattle.stk_symbols.proofs.Answering.{are_widths}
use Rattle.stk_symbols.proofs.symbols.Symbols.new.Goals as goal

pub new-requires : goal.new-requires
new-requires c = subst AreWidths (sym c.in_ok-widths.ensures) (are_widths c.args.kinds.now)
