use Rattle.stk_records.proofs.Joined.{joined}
use Rattle.stk_records.proofs.text.add_found.Goals as goal

pub returns : goal.returns
returns c = joined _ _ _ _ _ (joined _ _ _ _ _ c.in_ok-add_counted.ensures c.in_ok-add_counted-2.ensures) c.in_ok-add_counted-3.ensures
