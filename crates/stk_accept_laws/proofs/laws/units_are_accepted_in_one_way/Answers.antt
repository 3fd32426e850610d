use Rattle.std.proofs.Common.{false}
use Rattle.stk_accept_laws.proofs.Accepted.{one_tree, one_left, not_both, one_accepted, one_cause}
use Rattle.stk_accept_laws.proofs.laws.units_are_accepted_in_one_way.Goals as goal

pub returns : goal.returns
returns c = record { trees = (λ bytes es tokens. one_tree bytes false es tokens); accepted = one_accepted; refused = one_left; apart = not_both; causes = one_cause }
