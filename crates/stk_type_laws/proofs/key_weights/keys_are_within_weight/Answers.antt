use Rattle.stk_type_laws.proofs.KeyWeights.{keys_are_within_weight}
use Rattle.stk_type_laws.proofs.key_weights.keys_are_within_weight.Goals as goal

pub returns : goal.returns
returns c = keys_are_within_weight
