-- How often lines say that a query was given up.
use Rattle.std.specs.Prelude.{ℕ, ◌+◌, List, [], ◌∷◌, Option, Some, None}
use Rattle.stk_records.specs.declared.line.StartInputs.{StartInputs}
use Rattle.stk_records.specs.declared.line.Needed.{Needed}
use Rattle.stk_records.specs.declared.line.Line.{Line}
use Rattle.stk_records.specs.declared.line.Line.TheVariants.{Unstable, Undecided, Skipped, Summary}

-- a condition of a report that no start shows is open
abbrev pub shown_mark : Option StartInputs → ℕ
shown_mark None = 1
shown_mark (Some start) = 0

abbrev pub needed_marks : List Needed → ℕ
needed_marks [] = 0
needed_marks (n ∷ ns) = shown_mark n.without + needed_marks ns

-- the marks of a line: one where it says that a fragment is undecided, and one for each condition that is open
abbrev pub line_marks : Line → ℕ
line_marks (Unstable fragment hit needs) = needed_marks needs
line_marks (Undecided fragment phase) = 1
line_marks (Skipped at cause) = 0
line_marks (Summary counts without) = 0

abbrev pub lines_marks : List Line → ℕ
lines_marks [] = 0
lines_marks (x ∷ xs) = line_marks x + lines_marks xs
