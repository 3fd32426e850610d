-- Which texts and statuses are lawful for the bytes of an input and the options of a run. The input is cut into its
-- units; a tree stands for a unit by printing its tokens, so nothing here speaks of how a unit is read.
use Rattle.std.specs.Prelude.{◌≡◌, ℕ, Bool, List, ◌++◌, Option}
use Rattle.stk_base.specs.declared.status.Status.{Status}
use Rattle.stk_lex.specs.declared.token.Token.{Token}
use Rattle.stk_lex.specs.declared.cutting.Piece.{Piece}
use Rattle.stk_ctype.specs.declared.symbol.NameEntry.{NameEntry}
use Rattle.stk_records.specs.declared.options.Options.{Options}
use Rattle.stk_records.specs.declared.counts.Counts.{Counts}
use Rattle.stk_records.specs.declared.line.Line.{Line}
use Rattle.stk_records.specs.Form.{written_records, written_summary}
use Rattle.stk_units.specs.Counted.{status_of}
use Rattle.stk_units.specs.Said.{UnitSaying, AreSaid, IsSaidOf}
use Rattle.stk_unit_lines.specs.UnitLines.{IsUnitLines}
use Rattle.stk_unit_lines.specs.Marks.{lines_marks}

-- what records say of a unit: its lawful lines
abbrev pub SaysLines : List ℕ → Options → UnitSaying Line
SaysLines bytes o = λ mark es body tokens lines counts now. IsUnitLines bytes o.without o.budget mark es body tokens lines counts now

-- the lawful lines of units, one after the other, each under the names that those before it leave, and their counts
-- together
abbrev pub AreUnitsLines : List ℕ → Options → List Token → List NameEntry → List Piece → List Line → Counts → Type 0
AreUnitsLines bytes o tokens es ps lines counts = AreSaid (SaysLines bytes o) tokens es ps lines counts

-- ---- the text

-- A lawful text of these bytes under these options, the status that goes with it, and how often its lines say that a
-- query was given up: in the form that the options ask for, the lawful lines of each unit of the bytes, in order, with
-- no names in force before the first, and then the summary with their counts; where the options ask for a generated
-- text, the summary alone.
pub record IsLawfulText (bytes : List ℕ) (o : Options) (text : List ℕ) (status : Status) (marks : ℕ) : Type 0 where
  pub lines : List Line
  pub counts : Counts
  pub units : IsSaidOf (SaysLines bytes o) bytes lines counts
  pub same_text : text ≡ written_records o lines ++ written_summary o.json o.without counts
  pub same_status : status ≡ status_of counts.unstable counts.undecided
  pub same_marks : marks ≡ lines_marks lines
