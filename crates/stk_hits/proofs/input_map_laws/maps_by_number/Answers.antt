use Rattle.stk_hits.proofs.Numbering.{by_number}
use Rattle.stk_hits.proofs.input_map_laws.maps_by_number.Goals as goal

pub returns : goal.returns
returns c = by_number
