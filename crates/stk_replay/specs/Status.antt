-- The exit status of each way to end, and the line that tells of a failure.
use Rattle.std.specs.Prelude.{ℕ, List, [], codes}
use Rattle.stk_replay.specs.declared.status.ReplayStatus.{ReplayStatus}
use Rattle.stk_replay.specs.declared.status.ReplayStatus.TheVariants.{Done, BadWords, ReadFault, WriteFault, TooLarge, NoMemory, BadScript, TooLong}

-- the exit status of the process
abbrev pub code_of : ReplayStatus → ℕ
code_of Done = 0
code_of BadWords = 3
code_of ReadFault = 4
code_of WriteFault = 5
code_of TooLarge = 6
code_of NoMemory = 7
code_of BadScript = 8
code_of TooLong = 9

-- the line that tells of a failure; nothing where there is none
abbrev pub fault_line : ReplayStatus → List ℕ
fault_line Done = []
fault_line BadWords = codes "stack: bad words\n"
fault_line ReadFault = codes "stack: the input cannot be read\n"
fault_line WriteFault = codes "stack: the output cannot be written\n"
fault_line TooLarge = codes "stack: the input is larger than 16777216 bytes\n"
fault_line NoMemory = codes "stack: no memory\n"
fault_line BadScript = codes "stack: bad script\n"
fault_line TooLong = codes "stack: the run is too long\n"
