-- How the lines of a function's findings are written, one after the other, and what else a sink takes of a unit.
use Rattle.std.proofs.Common.{◌≡◌, ℕ, zero, suc, ◌+◌, ◌<◌, ◌≤◌, ◌^◌, ◌⊎◌, inl, inr, List, [], ◌∷◌, ◌++◌, length, take, drop, get_or, Option, Result, Ok, Err, IfOk, refl, sym, ap, subst, ◌∙◌, append_assoc, arith}
use Rattle.std.specs.Prelude.{OnErr}
use Rattle.std.proofs.Common.{drop-cons}
use Rattle.std.proofs.lemmas.List.{append-nil, length-take, take_more, take_all, take-append-drop}
use Rattle.stk_base.specs.Streams.{Appended, AppendedPrefix}
use Rattle.stk_lex.specs.declared.token.Token.{Token}
use Rattle.stk_tree.specs.Syntax.{FunctionTree}
use Rattle.stk_numbers.specs.declared.conditions.Candidate.{Candidate}
use Rattle.stk_meaning.specs.Typings.{Typing}
use Rattle.stk_meaning.specs.declared.finding.Finding.{Finding}
use Rattle.stk_meaning.specs.Findings.{Subject, IsLawful, AreLawful}
use Rattle.stk_spent_queries.specs.Marks.{marks, all_marks, AreCounted}
use Rattle.stk_spent_queries.proofs.Counting.{counted_none, counted_more, marks_append}
use Rattle.stk_records.specs.declared.options.Options.{Options}
use Rattle.stk_records.specs.declared.counts.Counts.{Counts}
use Rattle.stk_records.specs.declared.line.Cause.{Cause}
use Rattle.stk_records.specs.declared.line.Line.{Line}
use Rattle.stk_records.specs.Counts.{AreBelow}
use Rattle.stk_records.specs.Form.{written_records}
use Rattle.stk_records.proofs.Written.{nothing_appended, prefix_more, prefix_of, written_append, written_none, lines_more}
use Rattle.stk_spelling.specs.Placed.{Placed}
use Rattle.stk_unit_lines.specs.Lines.{finding_lines, findings_lines}
use Rattle.stk_unit_lines.specs.Marks.{lines_marks}
use Rattle.stk_units.specs.Counted.{one_judged, one_skipped}
use Rattle.stk_units.proofs.Counts.{length_same, few_judged}
use Rattle.stk_unit_lines.specs.UnitLines.{skip_line}
use Rattle.stk_unit_lines.specs.Parts.{AreFindingLines, IsSkipLine}
use Rattle.stk_unit_lines.specs.Wrote.{Wrote, WrotePrefix, HasStopped}
use Rattle.stk_unit_lines.proofs.Marked.{findings_same, skip_counted}
use Rattle.stk_unit_lines.proofs.Made.{skipped}

-- ---- what is known of lines that were written is known of them otherwise

module _ (P Q : List Line → Counts → Type 0) (o : Options) (before after : Option (List ℕ)) (same : (lines : List Line) (counts : Counts) → P lines counts → Q lines counts) where
  pub wrote_otherwise : (first last : ℕ) (counts : Counts) → Wrote P o before after first last counts → Wrote Q o before after first last counts
  wrote_otherwise first last counts w = record { lines = w.lines; are = same w.lines counts w.are; written = w.written; counted = w.counted }

  pub wrote_weaker : {E : Type 0} (first last : ℕ) (r : Result Counts E) → IfOk r (Wrote P o before after first last) → IfOk r (Wrote Q o before after first last)
  wrote_weaker first last (Ok counts) w = wrote_otherwise first last counts w
  wrote_weaker first last (Err e) w = tt

  prefix_otherwise : WrotePrefix P o before after → WrotePrefix Q o before after
  prefix_otherwise w = record { lines = w.lines; counts = w.counts; are = same w.lines w.counts w.are; written = w.written }

  stopped_otherwise : HasStopped P o before after → HasStopped Q o before after
  stopped_otherwise (inl none) = inl none
  stopped_otherwise (inr w) = inr (prefix_otherwise w)

  pub stopped_weaker : {T E : Type 0} (r : Result T E) → OnErr r (HasStopped P o before after) → OnErr r (HasStopped Q o before after)
  stopped_weaker (Ok x) h = tt
  stopped_weaker (Err e) h = stopped_otherwise h

-- an error has what holds
pub on_err : {T E : Type 0} (r : Result T E) (W : Type 0) → W → OnErr r W
on_err (Ok x) W w = tt
on_err (Err e) W w = w

-- ---- the line of a unit that is skipped

module _ (bytes : List ℕ) (tokens : List Token) (none : Token) (cause : Cause) (some : 0 < length tokens) (o : Options) (before after : Option (List ℕ)) (line : Line) (same : line ≡ skip_line bytes (get_or tokens 0 none).span.from cause) where
  skip_is : (counts : Counts) → counts ≡ one_skipped → IsSkipLine bytes tokens cause (line ∷ []) counts
  skip_is counts e = skipped bytes tokens none cause (line ∷ []) counts some (ap (λ x. x ∷ []) same) e

  pub skip_wrote : (n : ℕ) (counts : Counts) → counts ≡ one_skipped → Appended before after (written_records o (line ∷ [])) → Wrote (IsSkipLine bytes tokens cause) o before after n n counts
  skip_wrote n counts e written = record {
    lines = line ∷ [];
    are = skip_is counts e;
    written = written;
    counted = skip_counted n bytes tokens cause (line ∷ []) counts (skip_is counts e);
  }

  pub skip_stopped : AppendedPrefix before after (written_records o (line ∷ [])) → HasStopped (IsSkipLine bytes tokens cause) o before after
  skip_stopped written = inr (record { lines = line ∷ []; counts = one_skipped; are = skip_is one_skipped refl; written = written })

-- ---- the lines of a function without candidates

pub no_findings_wrote : (subject : Subject) (q : Placed) (ty : Typing) (f : FunctionTree) (keys : List (List ℕ)) (cs : List Candidate) (o : Options) (before : Option (List ℕ)) (n : ℕ) (counts : Counts) → length cs ≡ 0 → counts ≡ one_judged []
    → Wrote (AreFindingLines subject q ty f keys cs) o before before n n counts
no_findings_wrote subject q ty f keys [] o before n counts none e = record {
  lines = [];
  are = record { findings = []; lawful = tt; same_lines = refl; same_counts = e };
  written = subst (Appended before before) (sym (written_none o)) (nothing_appended before);
  counted = counted_none n n (omega arith);
}
no_findings_wrote subject q ty f keys (c ∷ cs) o before n counts none e = absurd (omega (arith, none))

-- ---- the lines of findings

module _ (subject : Subject) (q : Placed) (ty : Typing) (f : FunctionTree) (keys : List (List ℕ)) where
  -- the lines of findings, behind others
  pub lines_behind : (cs ds : List Candidate) (xs ys : List Finding) → AreLawful subject cs xs → findings_lines q ty f keys (cs ++ ds) (xs ++ ys) ≡ findings_lines q ty f keys cs xs ++ findings_lines q ty f keys ds ys
  lines_behind [] ds [] ys h = refl
  lines_behind [] ds (x ∷ xs) ys h = absurd h
  lines_behind (c ∷ cs) ds [] ys h = absurd h
  lines_behind (c ∷ cs) ds (x ∷ xs) ys h =
      ap (λ l. finding_lines q ty f keys c x ++ l) (lines_behind cs ds xs ys h.1) ∙ sym (append_assoc (finding_lines q ty f keys c x) (findings_lines q ty f keys cs xs) (findings_lines q ty f keys ds ys))

  lawful_behind : (cs ds : List Candidate) (xs ys : List Finding) → AreLawful subject cs xs → AreLawful subject ds ys → AreLawful subject (cs ++ ds) (xs ++ ys)
  lawful_behind [] ds [] ys h k = k
  lawful_behind [] ds (x ∷ xs) ys h k = absurd h
  lawful_behind (c ∷ cs) ds [] ys h k = absurd h
  lawful_behind (c ∷ cs) ds (x ∷ xs) ys h k = (h.0, lawful_behind cs ds xs ys h.1 k)

  lawful_drop : (i : ℕ) (cs : List Candidate) (xs : List Finding) → AreLawful subject cs xs → AreLawful subject (drop i cs) (drop i xs)
  lawful_drop zero cs xs h = h
  lawful_drop (suc i) [] [] h = tt
  lawful_drop (suc i) [] (x ∷ xs) h = absurd h
  lawful_drop (suc i) (c ∷ cs) [] h = absurd h
  lawful_drop (suc i) (c ∷ cs) (x ∷ xs) h = lawful_drop i cs xs h.1

  -- the lines of the first candidates are written, each of which has a lawful finding
  pub record AreWritten (cs : List Candidate) (i : ℕ) (o : Options) (before after : Option (List ℕ)) (first last : ℕ) (counts : Counts) : Type 0 where
    pub findings : List Finding
    pub lawful : AreLawful subject (take i cs) findings
    pub written : Appended before after (written_records o (findings_lines q ty f keys (take i cs) findings))
    pub same_counts : counts ≡ one_judged findings
    pub counted : AreCounted first last (all_marks findings)
    pub rises : first ≤ last

  pub none_written : (cs : List Candidate) (o : Options) (before : Option (List ℕ)) (n : ℕ) (counts : Counts) → counts ≡ one_judged [] → AreWritten cs 0 o before before n n counts
  none_written cs o before n counts e = record {
    findings = [];
    lawful = tt;
    written = subst (Appended before before) (sym (written_none o)) (nothing_appended before);
    same_counts = e;
    counted = counted_none n n (omega arith);
    rises = omega arith;
  }

  -- the lines of one candidate more
  one_line_more : (cs : List Candidate) (i : ℕ) (d : Candidate) (xs : List Finding) (x : Finding) → i < length cs → AreLawful subject (take i cs) xs
      → findings_lines q ty f keys (take (i + 1) cs) (xs ++ x ∷ []) ≡ findings_lines q ty f keys (take i cs) xs ++ finding_lines q ty f keys (get_or cs i d) x
  one_line_more cs i d xs x within h =
      ap (λ (ds : List Candidate). findings_lines q ty f keys ds (xs ++ x ∷ [])) (take_more cs i d within)
      ∙ lines_behind (take i cs) (get_or cs i d ∷ []) xs (x ∷ []) h
      ∙ ap (λ l. findings_lines q ty f keys (take i cs) xs ++ l) (append-nil (finding_lines q ty f keys (get_or cs i d) x))

  lawful_more : (cs : List Candidate) (i : ℕ) (d : Candidate) (xs : List Finding) (x : Finding) → i < length cs → AreLawful subject (take i cs) xs → IsLawful subject (get_or cs i d) x → AreLawful subject (take (i + 1) cs) (xs ++ x ∷ [])
  lawful_more cs i d xs x within h k = subst (λ (ds : List Candidate). AreLawful subject ds (xs ++ x ∷ [])) (sym (take_more cs i d within)) (lawful_behind (take i cs) (get_or cs i d ∷ []) xs (x ∷ []) h (k, tt))

  pub one_more_written : (cs : List Candidate) (i : ℕ) (d : Candidate) (o : Options) (before middle after : Option (List ℕ)) (first last later : ℕ) (counts more : Counts) (x : Finding) → i < length cs → AreWritten cs i o before middle first last counts
      → IsLawful subject (get_or cs i d) x → Appended middle after (written_records o (finding_lines q ty f keys (get_or cs i d) x)) → AreCounted last later (marks x) → last ≤ later
      → ((findings : List Finding) → counts ≡ one_judged findings → more ≡ one_judged (findings ++ x ∷ [])) → AreWritten cs (i + 1) o before after first later more
  one_more_written cs i d o before middle after first last later counts more x within w lawful written counted up count =
      let all : all_marks w.findings + marks x ≡ all_marks (w.findings ++ x ∷ []) = omega (arith, marks_append w.findings (x ∷ [])) in
      record {
        findings = w.findings ++ x ∷ [];
        lawful = lawful_more cs i d w.findings x within w.lawful lawful;
        written = subst (λ (l : List Line). Appended before after (written_records o l)) (sym (one_line_more cs i d w.findings x within w.lawful))
            (lines_more o before middle after (findings_lines q ty f keys (take i cs) w.findings) (finding_lines q ty f keys (get_or cs i d) x) w.written written);
        same_counts = count w.findings w.same_counts;
        counted = subst (AreCounted first later) all (counted_more first last later (all_marks w.findings) (marks x) w.rises up w.counted counted);
        rises = omega (arith, w.rises, up);
      }

  -- with the findings of those behind they are findings of all
  ends : (cs : List Candidate) (i : ℕ) (xs all : List Finding) → AreLawful subject (take i cs) xs → AreLawful subject cs all
      → AreFindingLines subject q ty f keys cs (findings_lines q ty f keys (take i cs) xs ++ findings_lines q ty f keys (drop i cs) (drop i all)) (one_judged (xs ++ drop i all))
  ends cs i xs all h k = record {
    findings = xs ++ drop i all;
    lawful = subst (λ (ds : List Candidate). AreLawful subject ds (xs ++ drop i all)) (take-append-drop i cs) (lawful_behind (take i cs) (drop i cs) xs (drop i all) h (lawful_drop i cs all k));
    same_lines = sym (lines_behind (take i cs) (drop i cs) xs (drop i all) h) ∙ ap (λ (ds : List Candidate). findings_lines q ty f keys ds (xs ++ drop i all)) (take-append-drop i cs);
    same_counts = refl;
  }

  -- nothing more comes behind those that are written
  pub stops_before : (cs : List Candidate) (i : ℕ) (o : Options) (before after : Option (List ℕ)) (first last : ℕ) (counts : Counts) (all : List Finding) → AreWritten cs i o before after first last counts → AreLawful subject cs all → HasStopped (AreFindingLines subject q ty f keys cs) o before after
  stops_before cs i o before after first last counts all w k =
      let here = findings_lines q ty f keys (take i cs) w.findings in
      let rest = findings_lines q ty f keys (drop i cs) (drop i all) in
      inr (record {
        lines = here ++ rest;
        counts = one_judged (w.findings ++ drop i all);
        are = ends cs i w.findings all w.lawful k;
        written = subst (AppendedPrefix before after) (sym (written_append o here rest)) (prefix_of before after (written_records o here) (written_records o rest) (whole before after (written_records o here) w.written));
      }) where
        whole : (before after : Option (List ℕ)) (a : List ℕ) → Appended before after a → AppendedPrefix before after a
        whole before after a h = (a, [], sym (append-nil a), h)

  -- no more comes than some prefix of the next line
  pub stops_within : (cs : List Candidate) (i : ℕ) (d : Candidate) (o : Options) (before middle after : Option (List ℕ)) (first last : ℕ) (counts : Counts) (x : Finding) (all : List Finding) → i < length cs → AreWritten cs i o before middle first last counts
      → IsLawful subject (get_or cs i d) x → AppendedPrefix middle after (written_records o (finding_lines q ty f keys (get_or cs i d) x)) → AreLawful subject cs all → HasStopped (AreFindingLines subject q ty f keys cs) o before after
  stops_within cs i d o before middle after first last counts x all within w lawful written k =
      let here = findings_lines q ty f keys (take i cs) w.findings in
      let next = finding_lines q ty f keys (get_or cs i d) x in
      let rest = findings_lines q ty f keys (drop (i + 1) cs) (drop (i + 1) all) in
      let one = one_line_more cs i d w.findings x within w.lawful in
      let text : written_records o here ++ (written_records o next ++ written_records o rest) ≡ written_records o ((here ++ next) ++ rest) =
      sym (append_assoc (written_records o here) (written_records o next) (written_records o rest)) ∙ ap (λ (u : List ℕ). u ++ written_records o rest) (sym (written_append o here next)) ∙ sym (written_append o (here ++ next) rest) in
      inr (record {
        lines = (here ++ next) ++ rest;
        counts = one_judged ((w.findings ++ x ∷ []) ++ drop (i + 1) all);
        are = subst (λ (l : List Line). AreFindingLines subject q ty f keys cs (l ++ rest) (one_judged ((w.findings ++ x ∷ []) ++ drop (i + 1) all))) one (ends cs (i + 1) (w.findings ++ x ∷ []) all (lawful_more cs i d w.findings x within w.lawful lawful) k);
        written = subst (AppendedPrefix before after) text (prefix_more before middle after (written_records o here) (written_records o next) (written_records o rest) w.written written);
      })

  -- all lines are written
  pub all_written : (cs : List Candidate) (i : ℕ) (o : Options) (before after : Option (List ℕ)) (first last : ℕ) (counts : Counts) → length cs ≤ i → AreWritten cs i o before after first last counts → Wrote (AreFindingLines subject q ty f keys cs) o before after first last counts
  all_written cs i o before after first last counts past w =
      let whole : take i cs ≡ cs = take_all i cs past in
      let lawful = subst (λ (ds : List Candidate). AreLawful subject ds w.findings) whole w.lawful in
      record {
        lines = findings_lines q ty f keys cs w.findings;
        are = record { findings = w.findings; lawful = lawful; same_lines = refl; same_counts = w.same_counts };
        written = subst (λ (ds : List Candidate). Appended before after (written_records o (findings_lines q ty f keys ds w.findings))) whole w.written;
        counted = subst (AreCounted first last) (sym (findings_same q ty f keys subject cs w.findings lawful)) w.counted;
      }

  -- the counts of those that are written are few
  pub written_few : (cs : List Candidate) (i : ℕ) (o : Options) (before after : Option (List ℕ)) (first last : ℕ) (counts : Counts) → length cs < 2 ^ 32 → AreWritten cs i o before after first last counts → AreBelow counts
  written_few cs i o before after first last counts few w = rw w.same_counts (few_judged w.findings (omega (arith, few, shorter i cs, length_same subject (take i cs) w.findings w.lawful))) where
    shorter : (i : ℕ) (cs : List Candidate) → length (take i cs) ≤ length cs
    shorter zero cs = omega arith
    shorter (suc i) [] = omega arith
    shorter (suc i) (c ∷ cs) = omega (arith, shorter i cs)
