-- What the parts of a unit's lines are.
use Rattle.std.specs.Prelude.{◌≡◌, ℕ, List, [], ◌∷◌}
use Rattle.stk_lex.specs.declared.token.Token.{Token}
use Rattle.stk_ctype.specs.declared.symbol.NameEntry.{NameEntry}
use Rattle.stk_tree.specs.Syntax.{UnitTree, FunctionTree, defines}
use Rattle.stk_numbers.specs.declared.conditions.Candidate.{Candidate}
use Rattle.stk_numbers.specs.declared.conditions.Kinds.{Kinds}
use Rattle.stk_meaning.specs.Typings.{Typing}
use Rattle.stk_meaning.specs.declared.finding.Finding.{Finding}
use Rattle.stk_meaning.specs.Findings.{Subject, AreLawful}
use Rattle.stk_unit_lines.specs.Lines.{findings_lines}
use Rattle.stk_spelling.specs.Placed.{Placed}
use Rattle.stk_records.specs.declared.counts.Counts.{Counts}
use Rattle.stk_records.specs.declared.line.Cause.{Cause}
use Rattle.stk_records.specs.declared.line.Line.{Line}
use Rattle.stk_records.specs.Counts.{nothing_counted}
use Rattle.stk_units.specs.Outcomes.{UnitOutcome, no_function, left_out, is_judged}
use Rattle.stk_units.specs.Counted.{one_skipped, one_judged}
use Rattle.stk_unit_lines.specs.UnitLines.{skip_line, function_lines, AreFindingsOf}

-- the lines and the counts of a unit that is skipped: its first token begins where the line says
abbrev pub IsSkipLine : List ℕ → List Token → Cause → List Line → Counts → Type 0
IsSkipLine bytes [] cause lines counts = ⊥
IsSkipLine bytes (first ∷ others) cause lines counts = (lines ≡ skip_line bytes first.span.from cause ∷ []) × (counts ≡ one_skipped)

-- the lines and the counts of a function: those of lawful findings
pub record IsJudged (bytes : List ℕ) (without : Kinds) (budget : ℕ) (now : List NameEntry) (u : UnitTree) (f : FunctionTree) (lines : List Line) (counts : Counts) : Type 0 where
  pub findings : List Finding
  pub lawful : AreFindingsOf bytes without budget now u f findings
  pub same_lines : lines ≡ function_lines bytes without now u f findings
  pub same_counts : counts ≡ one_judged findings

-- the lines and the counts of lawful findings for candidates, by what findings speak of
pub record AreFindingLines (subject : Subject) (q : Placed) (ty : Typing) (f : FunctionTree) (keys : List (List ℕ)) (cs : List Candidate) (lines : List Line) (counts : Counts) : Type 0 where
  pub findings : List Finding
  pub lawful : AreLawful subject cs findings
  pub same_lines : lines ≡ findings_lines q ty f keys cs findings
  pub same_counts : counts ≡ one_judged findings

-- the lines and the counts of a unit of which this becomes
abbrev pub AreOutcomeLines : List ℕ → Kinds → ℕ → List NameEntry → List Token → UnitOutcome → List Line → Counts → Type 0
AreOutcomeLines bytes without budget now tokens no_function lines counts = (lines ≡ []) × (counts ≡ nothing_counted)
AreOutcomeLines bytes without budget now tokens (left_out cause) lines counts = IsSkipLine bytes tokens cause lines counts
AreOutcomeLines bytes without budget now tokens (is_judged node f) lines counts = IsJudged bytes without budget now (defines node f) f lines counts
