use Rattle.stk_records.proofs.Joined.{joined}
use Rattle.stk_records.proofs.text.add_undecided.Goals as goal

pub returns : goal.returns
returns c = joined _ _ _ _ _ c.in_ok-add_fragment.ensures c.in_ok-add_query.ensures
