use Rattle.std.proofs.Common.{◌≡◌, length}
use Rattle.stk_lex.specs.Begun.{notes_from}
use Rattle.stk_lex.proofs.notes.notes_from.Given as goal

abbrev pub invariant-loop-note : goal.invariant-loop-note
invariant-loop-note l = notes_from l.end l.rest ≡ notes_from l.end l.notes

abbrev pub decreases-loop-note : goal.decreases-loop-note
decreases-loop-note l = length l.rest
