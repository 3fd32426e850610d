-- The exit status of each way to end.
use Rattle.std.specs.Prelude.{ℕ}
use Rattle.stk_base.specs.declared.status.Status.{Status}
use Rattle.stk_base.specs.declared.status.Status.TheVariants.{Stable, Found, Unsure, BadWords, ReadFault, WriteFault, TooLarge, NoMemory, NoCandidate}

-- the exit status of the process
abbrev pub code_of : Status → ℕ
code_of Stable = 0
code_of Found = 1
code_of Unsure = 2
code_of BadWords = 3
code_of ReadFault = 4
code_of WriteFault = 5
code_of TooLarge = 6
code_of NoMemory = 7
code_of NoCandidate = 8
