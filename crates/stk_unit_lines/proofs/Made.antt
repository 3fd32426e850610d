-- The lines of a unit, from what becomes of it, and back.
use Rattle.std.proofs.Common.{◌≡◌, ℕ, ◌<◌, Bool, List, [], ◌∷◌, length, get_or, Option, refl, arith}
use Rattle.stk_lex.specs.declared.token.Token.{Token}
use Rattle.stk_ctype.specs.declared.symbol.NameEntry.{NameEntry}
use Rattle.stk_numbers.specs.declared.conditions.Kinds.{Kinds}
use Rattle.stk_records.specs.declared.counts.Counts.{Counts}
use Rattle.stk_records.specs.declared.line.Cause.{Cause}
use Rattle.stk_records.specs.declared.line.Line.{Line}
use Rattle.stk_units.specs.Causes.{cause_of}
use Rattle.stk_units.specs.Outcomes.{UnitOutcome, no_function, left_out, is_judged, IsOutcome, declaring, refusing, leaving, judging}
use Rattle.stk_units.specs.Counted.{one_skipped}
use Rattle.stk_unit_lines.specs.UnitLines.{skip_line, IsUnitLines, accepted, refused, unjudged, judged}
use Rattle.stk_unit_lines.specs.Parts.{IsSkipLine, AreOutcomeLines}

-- the line of a unit that is skipped
pub skipped : (bytes : List ℕ) (tokens : List Token) (none : Token) (cause : Cause) (lines : List Line) (counts : Counts) → 0 < length tokens
    → lines ≡ skip_line bytes (get_or tokens 0 none).span.from cause ∷ [] → counts ≡ one_skipped → IsSkipLine bytes tokens cause lines counts
skipped bytes [] none cause lines counts some e f = absurd (omega arith)
skipped bytes (t ∷ ts) none cause lines counts some e f = (e, f)

module _ (bytes : List ℕ) (without : Kinds) (budget : ℕ) (mark : Bool) (es now : List NameEntry) (body : Option ℕ) where
  -- the lines of what becomes of a unit are its lines
  pub made : (tokens : List Token) (x : UnitOutcome) (lines : List Line) (counts : Counts) → IsOutcome bytes without mark es body tokens x now → AreOutcomeLines bytes without budget now tokens x lines counts → IsUnitLines bytes without budget mark es body tokens lines counts now
  made tokens x lines counts (declaring u h none) e = rw (e.0, e.1) (accepted u h none)
  made [] x lines counts (refusing cause h) line = absurd line
  made (t ∷ ts) x lines counts (refusing cause h) line = rw (line.0, line.1) (refused cause h)
  made [] x lines counts (leaving n f cause h because) line = absurd line
  made (t ∷ ts) x lines counts (leaving n f cause h because) line = rw (line.0, line.1) (unjudged n f cause h because)
  made tokens x lines counts (judging n f h none) j = rw (j.same_lines, j.same_counts) (judged n f j.findings h none j.lawful)

  -- what becomes of a unit that has these lines
  pub record HasOutcome (tokens : List Token) (lines : List Line) (counts : Counts) : Type 0 where
    pub outcome : UnitOutcome
    pub is : IsOutcome bytes without mark es body tokens outcome now
    pub are : AreOutcomeLines bytes without budget now tokens outcome lines counts

  pub outcome_of : (tokens : List Token) (lines : List Line) (counts : Counts) → IsUnitLines bytes without budget mark es body tokens lines counts now → HasOutcome tokens lines counts
  outcome_of tokens lines counts (accepted u h none) = record { outcome = no_function; is = declaring u h none; are = (refl, refl) }
  outcome_of tokens lines counts (refused cause h) = record { outcome = left_out (cause_of bytes cause); is = refusing cause h; are = (refl, refl) }
  outcome_of tokens lines counts (unjudged n f cause h because) = record { outcome = left_out cause; is = leaving n f cause h because; are = (refl, refl) }
  outcome_of tokens lines counts (judged n f xs h none lawful) = record { outcome = is_judged n f; is = judging n f h none; are = record { findings = xs; lawful = lawful; same_lines = refl; same_counts = refl } }
