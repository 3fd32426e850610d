-- How the lines of units are written, one after the other, and the text that they make.
use Rattle.std.proofs.Common.{◌≡◌, ℕ, ◌+◌, ◌<◌, ◌≤◌, false, List, [], ◌∷◌, ◌++◌, length, drop, get_or, Option, None, refl, sym, ap, subst, ◌∙◌, append_assoc}
use Rattle.std.specs.Prelude.{Result, Ok, Err, OnErr}
use Rattle.stk_base.specs.declared.status.Status.{Status}
use Rattle.stk_base.specs.Streams.{Appended, AppendedPrefix, IsFlushed}
use Rattle.stk_lex.specs.declared.token.Token.{Token}
use Rattle.stk_lex.specs.declared.cutting.Piece.{Piece}
use Rattle.stk_records.specs.declared.options.Options.{Options}
use Rattle.stk_records.specs.declared.counts.Counts.{Counts}
use Rattle.stk_records.specs.Counts.{counts_sum, AreBelow}
use Rattle.stk_ctype.specs.declared.symbol.NameEntry.{NameEntry}
use Rattle.stk_records.specs.declared.line.Line.{Line}
use Rattle.stk_records.specs.Form.{written_records, written_summary}
use Rattle.stk_records.proofs.Written.{appended_more, prefix_more, prefix_of, written_append, written_none}
use Rattle.stk_units.specs.Counted.{status_of}
use Rattle.stk_units.specs.Pieces.{body_of_piece, tokens_of_piece, AreUnitsOf}
use Rattle.stk_units.specs.Said.{UnitBeginning, AreSaid, then_unit}
use Rattle.stk_units.proofs.Going.{AreTold, AreSoFar, piece_behind, next_unit, one_more_told, unit_few}
use Rattle.stk_unit_lines.specs.Marks.{lines_marks}
use Rattle.stk_unit_lines.specs.Wrote.{WroteUnit, WroteUnitPrefix}
use Rattle.stk_unit_lines.proofs.Counted.{unit_most}
use Rattle.stk_unit_lines.proofs.Marked.{marks_append}
use Rattle.stk_unit_lines.proofs.Typed.{stays_orderly}
use Rattle.stk_lint.specs.LawfulText.{SaysLines, AreUnitsLines, IsLawfulText}
use Rattle.stk_lint.specs.Judged.{WroteUnits, WroteUnitsPrefix}
use Rattle.stk_lint.specs.Lint.{TookText, TookPrefix}
use Rattle.stk_lint.proofs.Asking.{of_records, records_front}
use Rattle.stk_lint.proofs.Units.{lines_of_units}

-- an error has what holds
pub on_err : {T E : Type 0} (result : Result T E) (W : Type 0) → W → OnErr result W
on_err (Ok x) W w = tt
on_err (Err e) W w = w

-- ---- what records say of units

-- no text of records begins with a part of what is said of a unit: what is begun is made whole
abbrev pub BeginsNothing : UnitBeginning Line
BeginsNothing = λ mark es body tokens lines. ⊥

pub lines_are_told : (bytes : List ℕ) (o : Options) → AreTold (SaysLines bytes o) (written_records o) lines_marks
lines_are_told bytes o = record {
  no_text = written_none o;
  more_text = written_append o;
  no_marks = refl;
  more_marks = marks_append;
  leaves_orderly = λ mark es now body unit lines counts orderly h. stays_orderly bytes o.without o.budget mark es now body unit lines counts orderly h;
  counts_few = λ mark es now body unit lines counts some h. unit_most bytes o.without o.budget mark es now body unit counts some h;
}

-- the units so far
abbrev pub SoFar : List ℕ → Options → List Token → List Piece → ℕ → Option (List ℕ) → Option (List ℕ) → ℕ → ℕ → Counts → List NameEntry → Type 0
SoFar bytes o tokens pieces i before after first last counts now = AreSoFar (SaysLines bytes o) BeginsNothing (written_records o) lines_marks tokens pieces i before after first last counts now

module _ (bytes : List ℕ) (o : Options) (tokens : List Token) (pieces : List Piece) (before : Option (List ℕ)) (first i : ℕ) (middle : Option (List ℕ)) (last : ℕ) (counts : Counts) (now : List NameEntry) (d : Piece) (within : i < length pieces) (body : Option ℕ) (unit : List Token) (same_body : body ≡ body_of_piece (get_or pieces i d))
    (same_unit : unit ≡ tokens_of_piece tokens (get_or pieces i d)) (h : SoFar bytes o tokens pieces i before middle first last counts now) where
  -- one more unit
  pub one_more_unit : (after : Option (List ℕ)) (later : ℕ) (more : Counts) (left : List NameEntry) → last ≤ later → let q = get_or pieces i d in
      WroteUnit bytes o q.no_return now body unit middle after last later more left → SoFar bytes o tokens pieces (i + 1) before after first later (counts_sum counts more) left
  one_more_unit after later more left up w =
      let q : Piece = get_or pieces i d in
      let are = subst (λ (b : Option ℕ). SaysLines bytes o q.no_return now b (tokens_of_piece tokens q) w.lines more left) same_body
      (subst (λ (ts : List Token). SaysLines bytes o q.no_return now body ts w.lines more left) same_unit w.are) in
      one_more_told (SaysLines bytes o) BeginsNothing (written_records o) lines_marks (lines_are_told bytes o) tokens pieces before first i middle last counts now h d within after later left w.lines more up are w.written w.counted

  -- what it counts for is few
  pub few_more : (after : Option (List ℕ)) (later : ℕ) (more : Counts) (left : List NameEntry) → length tokens ≤ 16777216 → let q = get_or pieces i d in
      WroteUnit bytes o q.no_return now body unit middle after last later more left → AreBelow more
  few_more after later more left few w =
      let q : Piece = get_or pieces i d in
      unit_few (SaysLines bytes o) BeginsNothing (written_records o) lines_marks (lines_are_told bytes o) tokens pieces before first i middle last counts now h d within q.no_return now left body unit w.lines more few same_unit w.are

  -- no more comes of a unit than some prefix of what may be written of it
  pub stops_in_unit : (after : Option (List ℕ)) → let q = get_or pieces i d in
      WroteUnitPrefix bytes o q.no_return now body unit middle after → WroteUnitsPrefix bytes o tokens pieces before after
  stops_in_unit after w =
      let p : Piece = get_or pieces i d in
      let n = next_unit (SaysLines bytes o) BeginsNothing (written_records o) lines_marks (lines_are_told bytes o) tokens pieces before first i middle last counts now h d within in
      let are = subst (λ (b : Option ℕ). SaysLines bytes o p.no_return now b (tokens_of_piece tokens p) w.lines w.counts w.now) same_body
      (subst (λ (ts : List Token). SaysLines bytes o p.no_return now body ts w.lines w.counts w.now) same_unit w.are) in
      let left = stays_orderly bytes o.without o.budget p.no_return now w.now (body_of_piece p) (tokens_of_piece tokens p) w.lines w.counts h.orderly are in
      let rest = lines_of_units bytes o tokens w.now p.to (drop (i + 1) pieces) left n.rest in
      let here : drop i pieces ≡ p ∷ drop (i + 1) pieces = piece_behind pieces i d within in
      let text : written_records o h.said ++ (written_records o w.lines ++ written_records o rest.lines) ≡ written_records o (h.said ++ (w.lines ++ rest.lines)) =
      ap (λ (u : List ℕ). written_records o h.said ++ u) (sym (written_append o w.lines rest.lines)) ∙ sym (written_append o h.said (w.lines ++ rest.lines)) in
      record {
        lines = h.said ++ (w.lines ++ rest.lines);
        counts = counts_sum counts (counts_sum w.counts rest.counts);
        are = h.goes_on (w.lines ++ rest.lines) (counts_sum w.counts rest.counts)
            (subst (λ (ps : List Piece). AreUnitsLines bytes o tokens now ps (w.lines ++ rest.lines) (counts_sum w.counts rest.counts)) (sym here) (then_unit are rest.are));
        written = subst (AppendedPrefix before after) text (prefix_more before middle after (written_records o h.said) (written_records o w.lines) (written_records o rest.lines) h.written w.written);
      }

-- ---- the text

module _ (bytes : List ℕ) (o : Options) (kept : List Token) (pieces : List Piece) (units : AreUnitsOf bytes kept pieces) (none : o.script ≡ None) (no_bundle : o.bundle ≡ false) where
  lawful : (lines : List Line) (counts : Counts) → AreUnitsLines bytes o kept [] pieces lines counts → IsLawfulText bytes o (written_records o lines ++ written_summary o.json o.without counts) (status_of counts.unstable counts.undecided) (lines_marks lines)
  lawful lines counts are = record {
    lines = lines;
    counts = counts;
    units = record {
      tokens = units.tokens;
      cut = units.cut;
      units = rw (units.same_tokens) at (subst (λ (ps : List Piece). AreSaid (SaysLines bytes o) kept [] ps lines counts) units.same_pieces are);
    };
    same_text = refl;
    same_status = refl;
    same_marks = refl;
  }

  pub text_taken : (before middle after : Option (List ℕ)) (flushed first last : ℕ) (counts : Counts) (status : Status) → WroteUnits bytes o kept pieces before middle first last counts → Appended middle after (written_summary o.json o.without counts) → IsFlushed after flushed
      → status ≡ status_of counts.unstable counts.undecided → TookText bytes o before after flushed first last status
  text_taken before middle after flushed first last counts status w end flush e = record {
    text = written_records o w.said ++ written_summary o.json o.without counts;
    marks = lines_marks w.said;
    lawful = of_records bytes o _ _ _ none no_bundle (rw e (lawful w.said counts w.are));
    written = appended_more before middle after (written_records o w.said) (written_summary o.json o.without counts) w.written end;
    flush = flush;
    counted = w.counted;
  }

  pub units_stop : (before after : Option (List ℕ)) → WroteUnitsPrefix bytes o kept pieces before after → TookPrefix bytes o before after
  units_stop before after w = record {
    text = written_records o w.lines ++ written_summary o.json o.without w.counts;
    front = records_front bytes o _ _ _ none no_bundle (lawful w.lines w.counts w.are);
    written = prefix_of before after (written_records o w.lines) (written_summary o.json o.without w.counts) w.written;
  }

  pub summary_stops : (before middle after : Option (List ℕ)) (first last : ℕ) (counts : Counts) → WroteUnits bytes o kept pieces before middle first last counts → AppendedPrefix middle after (written_summary o.json o.without counts) → TookPrefix bytes o before after
  summary_stops before middle after first last counts w (front, back, same, taken) = record {
    text = written_records o w.said ++ written_summary o.json o.without counts;
    front = records_front bytes o _ _ _ none no_bundle (lawful w.said counts w.are);
    written = (written_records o w.said ++ front, back, ap (λ (u : List ℕ). written_records o w.said ++ u) same ∙ sym (append_assoc (written_records o w.said) front back), appended_more before middle after (written_records o w.said) front w.written taken);
  }
