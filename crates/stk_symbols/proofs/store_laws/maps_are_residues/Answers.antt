use Rattle.stk_symbols.proofs.Mapped.{one_for_one}
use Rattle.stk_symbols.proofs.store_laws.maps_are_residues.Goals as goal

pub returns : goal.returns
returns c = one_for_one
