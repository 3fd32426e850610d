-- How the replay of an input ends.
use Rattle.std.specs.Prelude.{ℕ, List, Option}
use Rattle.stk_base.specs.Streams.{Came, Appended, AppendedPrefix, IsFlushed, IsSpent}
use Rattle.stk_replay_input.specs.Replays.{IsReplayText, HasBadScript, HasLongRun}
use Rattle.stk_replay.specs.declared.status.ReplayStatus.{ReplayStatus}
use Rattle.stk_replay.specs.declared.status.ReplayStatus.TheVariants.{BadWords, ReadFault, TooLarge, BadScript, TooLong}

-- no replay was written: there are words, the input wasn't read whole, it names no execution, or one that is too long
abbrev pub IsRefused : ReplayStatus → Type 0
IsRefused BadWords = Unit {0}
IsRefused ReadFault = Unit {0}
IsRefused TooLarge = Unit {0}
IsRefused BadScript = Unit {0}
IsRefused TooLong = Unit {0}
IsRefused status = ⊥

-- of bytes that were read: a sink took the text of their replay, and was flushed; or it took some prefix of that
pub record TookReplay (bytes : List ℕ) (taken_before taken_after : Option (List ℕ)) (flushed : ℕ) : Type 0 where
  pub text : List ℕ
  pub is : IsReplayText bytes text
  pub written : Appended taken_before taken_after text
  pub flush : IsFlushed taken_after flushed

pub record TookReplayPrefix (bytes : List ℕ) (taken_before taken_after : Option (List ℕ)) : Type 0 where
  pub text : List ℕ
  pub is : IsReplayText bytes text
  pub written : AppendedPrefix taken_before taken_after text

-- an input was read to its end: these bytes came, and none are left
pub record WasRead (left_before left_after : Option (List ℕ)) (bytes : List ℕ) : Type 0 where
  pub came : Came left_before left_after bytes
  pub spent : IsSpent left_after

-- the input was read to its end, and the text of its replay was written
pub record HasReplayed (left_before left_after taken_before taken_after : Option (List ℕ)) (flushed : ℕ) : Type 0 where
  pub bytes : List ℕ
  pub input : WasRead left_before left_after bytes
  pub took : TookReplay bytes taken_before taken_after flushed

pub record HasReplayedPrefix (left_before left_after taken_before taken_after : Option (List ℕ)) : Type 0 where
  pub bytes : List ℕ
  pub input : WasRead left_before left_after bytes
  pub took : TookReplayPrefix bytes taken_before taken_after

-- the input was read to its end, and names no execution, or one that is too long
pub record HasReadBadScript (left_before left_after : Option (List ℕ)) : Type 0 where
  pub bytes : List ℕ
  pub input : WasRead left_before left_after bytes
  pub bad : HasBadScript bytes

pub record HasReadLongRun (left_before left_after : Option (List ℕ)) : Type 0 where
  pub bytes : List ℕ
  pub input : WasRead left_before left_after bytes
  pub long : HasLongRun bytes
