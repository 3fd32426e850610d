use Rattle.stk_run_laws.proofs.OnceLaws.{a_sufficient_set_has_a_member}
use Rattle.stk_run_laws.proofs.listing.a_sufficient_set_has_a_member.Goals as goal

pub returns : goal.returns
returns c = a_sufficient_set_has_a_member
