use Rattle.stk_hits.proofs.Passing.{skipped}
use Rattle.stk_hits.proofs.queries.describes_a_map_without_a_run.Goals as goal

pub returns : goal.returns
returns c runs table = skipped runs table
