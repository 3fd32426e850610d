use Rattle.std.proofs.Common.{◌≡◌, ◌^◌, List, [], length, Option}
use Rattle.stk_numbers.specs.declared.conditions.Candidate.{Candidate}
use Rattle.stk_meaning.specs.declared.entry.Entry.{Entry}
use Rattle.stk_meaning.specs.Findings.{NoAnswer}
use Rattle.stk_hits.specs.InputMaps.{bits_in}
use Rattle.stk_hits.specs.Tables.{Describes, rows_of}
use Rattle.stk_hits.specs.Subjects.{subject_of}
use Rattle.stk_guess.proofs.Deletion.{IsNeededBehind}
use Rattle.stk_judge.proofs.exhaustive.needed.Given as goal

abbrev pub invariant-loop-i : goal.invariant-loop-i
invariant-loop-i l = (runs : List (Option (List Entry))) (c : Candidate) → Describes runs [] l.table → length runs ≡ 2 ^ bits_in l.kinds → l.rows ≡ rows_of c l.table.hits → NoAnswer (subject_of l.kinds runs l.conditions) c l.conditions → IsNeededBehind (subject_of l.kinds runs l.conditions) c l.conditions l.i l.needs.items
