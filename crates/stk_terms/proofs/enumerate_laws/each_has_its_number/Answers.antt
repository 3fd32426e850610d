use Rattle.stk_terms.proofs.Numbered.{numbers_are}
use Rattle.stk_terms.proofs.enumerate_laws.each_has_its_number.Goals as goal

pub returns : goal.returns
returns c = numbers_are
