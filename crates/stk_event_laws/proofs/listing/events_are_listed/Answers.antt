use Rattle.stk_event_laws.proofs.EventLaws.{events_listed}
use Rattle.stk_event_laws.proofs.listing.events_are_listed.Goals as goal

pub returns : goal.returns
returns c = events_listed
