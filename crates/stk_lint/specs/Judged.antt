-- What a sink takes of units.
use Rattle.std.specs.Prelude.{ℕ, List, [], Option}
use Rattle.stk_lex.specs.declared.token.Token.{Token}
use Rattle.stk_lex.specs.declared.cutting.Piece.{Piece}
use Rattle.stk_base.specs.Streams.{AppendedPrefix}
use Rattle.stk_records.specs.declared.options.Options.{Options}
use Rattle.stk_records.specs.declared.counts.Counts.{Counts}
use Rattle.stk_records.specs.declared.line.Line.{Line}
use Rattle.stk_records.specs.Form.{written_records}
use Rattle.stk_units.specs.Said.{AreAllTold}
use Rattle.stk_unit_lines.specs.Marks.{lines_marks}
use Rattle.stk_lint.specs.LawfulText.{SaysLines, AreUnitsLines}

-- a sink took the lines of units
abbrev pub WroteUnits : List ℕ → Options → List Token → List Piece → Option (List ℕ) → Option (List ℕ) → ℕ → ℕ → Counts → Type 0
WroteUnits bytes o tokens pieces before after first last counts = AreAllTold (SaysLines bytes o) (written_records o) lines_marks tokens pieces before after first last counts

-- a sink took some prefix of what may be written of units
pub record WroteUnitsPrefix (bytes : List ℕ) (o : Options) (tokens : List Token) (pieces : List Piece) (before after : Option (List ℕ)) : Type 0 where
  pub lines : List Line
  pub counts : Counts
  pub are : AreUnitsLines bytes o tokens [] pieces lines counts
  pub written : AppendedPrefix before after (written_records o lines)
