use Rattle.stk_symbols.proofs.Mattering.{others_do_not_matter}
use Rattle.stk_symbols.proofs.store_laws.goals_depend_on_what_matters.Goals as goal

pub returns : goal.returns
returns c = others_do_not_matter
