use Rattle.stk_event_laws.proofs.Places.{traces_listed}
use Rattle.stk_event_laws.proofs.positioning.traces_are_listed.Goals as goal

pub returns : goal.returns
returns c = traces_listed
