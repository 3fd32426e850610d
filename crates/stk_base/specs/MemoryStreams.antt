-- What a source and a sink in memory hold, and how their calls change that.
use Rattle.std.specs.Prelude.{ℕ, ◌+◌, ◌-◌, ◌^◌, min, List, ◌++◌, drop, length}

-- what a source has left, how many bytes it gives at most in a call, which calls fail, and how many were made and
-- failed
pub record SourceState : Type 0 where
  pub left : List ℕ
  pub most : ℕ
  pub failing : List ℕ
  pub calls : ℕ
  pub faults : ℕ

-- what a sink took and how many of that it flushed, how many bytes it takes at most in a call, and the same of its
-- calls
pub record SinkState : Type 0 where
  pub taken : List ℕ
  pub flushed : ℕ
  pub most : ℕ
  pub failing : List ℕ
  pub calls : ℕ
  pub faults : ℕ

-- the next number, up to the last of a u64
abbrev pub counted : ℕ → ℕ
counted n = min (n + 1) (2 ^ 64 - 1)

-- a source after a call that gave n bytes
abbrev pub gave : ℕ → SourceState → SourceState
gave n s = record s { left = drop n s.left; calls = counted s.calls }

-- a source after a call that failed
abbrev pub source_failed : SourceState → SourceState
source_failed s = record s { calls = counted s.calls; faults = counted s.faults }

-- a sink after a call that took these bytes
abbrev pub took : List ℕ → SinkState → SinkState
took bytes s = record s { taken = s.taken ++ bytes; calls = counted s.calls }

-- a sink after a call that flushed it
abbrev pub flushed_all : SinkState → SinkState
flushed_all s = record s { flushed = length s.taken; calls = counted s.calls }

-- a sink after a call that failed
abbrev pub sink_failed : SinkState → SinkState
sink_failed s = record s { calls = counted s.calls; faults = counted s.faults }
