use Rattle.stk_type_laws.proofs.Kept.{units_keep_order}
use Rattle.stk_type_laws.proofs.order.units_keep_order.Goals as goal

pub returns : goal.returns
returns c = units_keep_order
