use Rattle.stk_bundle.proofs.ClaimTexts.{claims_are_whole, first_is_whole}
use Rattle.stk_bundle.proofs.laws.claims_stand.Goals as goal

pub returns : goal.returns
returns c = record { claims = claims_are_whole; first = first_is_whole }
