use Rattle.stk_replay_input.proofs.Searching.{IsSearchedTo}
use Rattle.stk_replay_input.proofs.input.units_replay.Given as goal

abbrev pub invariant-loop-piece : goal.invariant-loop-piece
invariant-loop-piece l = record {
  so_far : IsSearchedTo l.input l.tokens l.pieces l.script l.piece-index l.names l.search;
}
