use Rattle.std.proofs.Common.{◌≡◌, get_or, subst}
use Rattle.stk_terms.specs.Values.{number_at}
use Rattle.stk_terms.proofs.enumerate.number_with.Goals as goal

pub returns-clause-is : goal.returns-clause-is
returns-clause-is c = subst (λ i. get_or c.evaluate.new.numbers i 0 ≡ number_at c.args.terms.now c.args.residues.now i) c.requires.has.is (c.evaluate.ensures.are c.requires.has.at c.requires.has.before)
