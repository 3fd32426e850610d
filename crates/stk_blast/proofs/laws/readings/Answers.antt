use Rattle.stk_blast.proofs.InputBits.{give, enough, given, terms}
use Rattle.stk_blast.proofs.laws.readings.Goals as goal

pub returns : goal.returns
returns c = record { give = give; enough = enough; given = given; terms = terms }
