-- Why an input has no replay.
use Rattle.stk_replaying.specs.declared.execution.Replay.{Replay}
use Rattle.stk_replaying.specs.declared.execution.Replay.TheVariants as replay
use Rattle.stk_replay_input.specs.declared.unreplayed.Unreplayed.{Unreplayed}
use Rattle.stk_replay_input.specs.declared.unreplayed.Unreplayed.TheVariants.{TooLong, NoMemory}

-- where the execution has none
abbrev pub unreplayed_of : Replay → Unreplayed
unreplayed_of replay.TooLong = TooLong
unreplayed_of replay.NoMemory = NoMemory
