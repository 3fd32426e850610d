use Rattle.stk_symbols.proofs.Earlier.{earlier}
use Rattle.stk_symbols.proofs.store_laws.earlier_terms.Goals as goal

pub returns : goal.returns
returns c = earlier
