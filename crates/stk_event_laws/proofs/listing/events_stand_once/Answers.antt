use Rattle.stk_event_laws.proofs.EventLaws.{events_once}
use Rattle.stk_event_laws.proofs.listing.events_stand_once.Goals as goal

pub returns : goal.returns
returns c = events_once
