use Rattle.stk_type_laws.proofs.Widths.{kinds_are_wide as law}
use Rattle.stk_type_laws.proofs.kind_widths.kinds_are_wide.Goals as goal

pub returns : goal.returns
returns c = law
