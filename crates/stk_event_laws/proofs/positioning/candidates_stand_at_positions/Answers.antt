use Rattle.stk_event_laws.proofs.Places.{candidates_at_positions}
use Rattle.stk_event_laws.proofs.positioning.candidates_stand_at_positions.Goals as goal

pub returns : goal.returns
returns c = candidates_at_positions
