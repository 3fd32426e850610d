use Rattle.stk_type_laws.proofs.KeyKinds.{keys_have_their_kinds}
use Rattle.stk_type_laws.proofs.key_kinds.keys_have_their_kinds.Goals as goal

pub returns : goal.returns
returns c = keys_have_their_kinds
