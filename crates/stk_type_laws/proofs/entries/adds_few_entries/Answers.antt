use Rattle.stk_type_laws.proofs.DeclaredCounts.{adds_few}
use Rattle.stk_type_laws.proofs.entries.adds_few_entries.Goals as goal

pub returns : goal.returns
returns c = adds_few
