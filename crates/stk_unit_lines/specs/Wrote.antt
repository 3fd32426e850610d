-- What a sink took of lines.
use Rattle.std.specs.Prelude.{◌≡◌, ◌≤◌, ◌⊎◌, ℕ, Bool, List, Option, Result, Err, OnOk, OnErr}
use Rattle.stk_base.specs.Causes.{Rose}
use Rattle.stk_base.specs.Streams.{Appended, AppendedPrefix}
use Rattle.stk_lex.specs.declared.token.Token.{Token}
use Rattle.stk_ctype.specs.declared.symbol.NameEntry.{NameEntry}
use Rattle.stk_records.specs.declared.options.Options.{Options}
use Rattle.stk_records.specs.declared.counts.Counts.{Counts}
use Rattle.stk_records.specs.declared.line.Line.{Line}
use Rattle.stk_records.specs.declared.writing.Stop.{Stop}
use Rattle.stk_records.specs.declared.writing.Stop.TheVariants as stops
use Rattle.stk_records.specs.Form.{written_records}
use Rattle.stk_spent_queries.specs.Marks.{AreCounted}
use Rattle.stk_unit_lines.specs.UnitLines.{IsUnitLines}
use Rattle.stk_units.specs.Visiting.{LeavingOut, Judging}
use Rattle.stk_unit_lines.specs.declared.recording.RecordVisitor.{RecordVisitor}
use Rattle.stk_unit_lines.specs.Parts.{IsSkipLine, IsJudged}
use Rattle.stk_unit_lines.specs.Marks.{lines_marks}

-- a sink took lines that are so, with these counts, and a count of what was given up tells of their marks
pub record Wrote (Are : List Line → Counts → Type 0) (o : Options) (before after : Option (List ℕ)) (first last : ℕ) (counts : Counts) : Type 0 where
  pub lines : List Line
  pub are : Are lines counts
  pub written : Appended before after (written_records o lines)
  pub counted : AreCounted first last (lines_marks lines)

-- a sink took some prefix of lines that are so
pub record WrotePrefix (Are : List Line → Counts → Type 0) (o : Options) (before after : Option (List ℕ)) : Type 0 where
  pub lines : List Line
  pub counts : Counts
  pub are : Are lines counts
  pub written : AppendedPrefix before after (written_records o lines)

-- a sink took nothing, or some prefix of lines that are so
abbrev pub HasStopped : (List Line → Counts → Type 0) → Options → Option (List ℕ) → Option (List ℕ) → Type 0
HasStopped Are o before after = (after ≡ before) ⊎ WrotePrefix Are o before after

-- a sink took the lines of a unit, which leaves these names
abbrev pub WroteUnit : List ℕ → Options → Bool → List NameEntry → Option ℕ → List Token → Option (List ℕ) → Option (List ℕ) → ℕ → ℕ → Counts → List NameEntry → Type 0
WroteUnit bytes o mark es body tokens before after first last counts now =
    Wrote (λ lines counts. IsUnitLines bytes o.without o.budget mark es body tokens lines counts now) o before after first last counts

-- a sink took some prefix of what may be written of a unit
pub record WroteUnitPrefix (bytes : List ℕ) (o : Options) (mark : Bool) (es : List NameEntry) (body : Option ℕ) (tokens : List Token) (before after : Option (List ℕ)) : Type 0 where
  pub lines : List Line
  pub counts : Counts
  pub now : List NameEntry
  pub are : IsUnitLines bytes o.without o.budget mark es body tokens lines counts now
  pub written : AppendedPrefix before after (written_records o lines)

-- what writing a unit's records does: its lines were written, with these counts, or where it stopped nothing or some
-- prefix of them; a fault of writing shows in the count of the sink's faults, and neither count falls
pub record HasWrittenRecords (Are : List Line → Counts → Type 0) (o : Options) (r : Result (Unit {0}) Stop) (before after : Option (List ℕ)) (faults_before faults_after first last : ℕ) (counts : Counts) : Type 0 where
  pub written : OnOk r (Wrote Are o before after first last counts)
  pub stopped : OnErr r (HasStopped Are o before after)
  pub later : faults_before ≤ faults_after
  pub fault : r ≡ Err stops.WriteFault → Rose faults_before faults_after
  pub given_up : first ≤ last

-- The records of a unit that is left out, and of a function that is judged, as what a visitor does: a sink shows what
-- it took and how often it failed, and a decider how much it gave up.
abbrev pub LeavesRecords : {O A : Type 0} → (O → Option (List ℕ)) → (O → ℕ) → (A → ℕ) → LeavingOut RecordVisitor O A
LeavesRecords taken faults given_up = λ bytes tokens cause r v w o p a b. HasWrittenRecords (IsSkipLine bytes tokens cause) v.options r (taken o) (taken p) (faults o) (faults p) (given_up a) (given_up b) w.counts

abbrev pub JudgesRecords : {O A : Type 0} → (O → Option (List ℕ)) → (O → ℕ) → (A → ℕ) → Judging RecordVisitor O A
JudgesRecords taken faults given_up = λ bytes without now tokens u f r v w o p a b. HasWrittenRecords (IsJudged bytes without v.options.budget now u f) v.options r (taken o) (taken p) (faults o) (faults p) (given_up a) (given_up b) w.counts
