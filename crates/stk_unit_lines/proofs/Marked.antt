-- The marks of lines are those of the findings that they tell.
use Rattle.std.proofs.Common.{◌≡◌, ℕ, ◌+◌, List, [], ◌∷◌, ◌++◌, map, Option, Some, None, refl, sym, ap, subst, ◌∙◌, arith}
use Rattle.std.specs.Option.{option_map}
use Rattle.stk_tree.specs.Syntax.{FunctionTree}
use Rattle.stk_numbers.specs.declared.conditions.Candidate.{Candidate}
use Rattle.stk_numbers.specs.declared.conditions.Inputs.{Inputs}
use Rattle.stk_meaning.specs.Typings.{Typing}
use Rattle.stk_meaning.specs.declared.finding.Finding.{Finding}
use Rattle.stk_meaning.specs.declared.finding.Finding.TheVariants as finding
use Rattle.stk_meaning.specs.declared.finding.Need.{Need}
use Rattle.stk_meaning.specs.Findings.{Subject, AreLawful}
use Rattle.stk_records.specs.declared.line.Line.{Line}
use Rattle.stk_lex.specs.declared.token.Token.{Token}
use Rattle.stk_records.specs.declared.counts.Counts.{Counts}
use Rattle.stk_records.specs.declared.line.Cause.{Cause}
use Rattle.stk_spent_queries.specs.Marks.{open_mark, open_count, marks, all_marks, AreCounted}
use Rattle.stk_spent_queries.proofs.Counting.{counted_none}
use Rattle.stk_unit_lines.specs.Parts.{IsSkipLine}
use Rattle.stk_spelling.specs.Placed.{Placed}
use Rattle.stk_unit_lines.specs.Lines.{start_of, needed_of, finding_lines, findings_lines}
use Rattle.stk_unit_lines.specs.Marks.{shown_mark, needed_marks, line_marks, lines_marks}

pub marks_append : (xs ys : List Line) → lines_marks (xs ++ ys) ≡ lines_marks xs + lines_marks ys
marks_append [] ys = omega arith
marks_append (x ∷ xs) ys = omega (arith, marks_append xs ys)

module _ (q : Placed) (ty : Typing) (f : FunctionTree) (keys : List (List ℕ)) where
  shown_same : (s : Option Inputs) → shown_mark (option_map (λ start. start_of keys start) s) ≡ open_mark s
  shown_same None = refl
  shown_same (Some start) = refl

  needed_same : (ns : List Need) → needed_marks (map (needed_of q keys) ns) ≡ open_count ns
  needed_same [] = refl
  needed_same (n ∷ ns) = omega (arith, shown_same n.shown, needed_same ns)

  pub finding_same : (c : Candidate) (x : Finding) → lines_marks (finding_lines q ty f keys c x) ≡ marks x
  finding_same c finding.Clear = refl
  finding_same c (finding.Unstable start needs) = omega (arith, needed_same needs)
  finding_same c (finding.Undecided phase) = refl

  pub findings_same : (subject : Subject) (cs : List Candidate) (xs : List Finding) → AreLawful subject cs xs → lines_marks (findings_lines q ty f keys cs xs) ≡ all_marks xs
  findings_same subject [] [] h = refl
  findings_same subject [] (x ∷ xs) h = absurd h
  findings_same subject (c ∷ cs) [] h = absurd h
  findings_same subject (c ∷ cs) (x ∷ xs) h = omega (arith, marks_append (finding_lines q ty f keys c x) (findings_lines q ty f keys cs xs), finding_same c x, findings_same subject cs xs h.1)

-- the line of a unit that is skipped has no mark
pub skip_counted : (n : ℕ) (bytes : List ℕ) (tokens : List Token) (cause : Cause) (lines : List Line) (counts : Counts) → IsSkipLine bytes tokens cause lines counts → AreCounted n n (lines_marks lines)
skip_counted n bytes [] cause lines counts h = absurd h
skip_counted n bytes (t ∷ ts) cause lines counts h =
    let none : lines_marks lines ≡ 0 = ap lines_marks h.0 in
    subst (AreCounted n n) (sym none) (counted_none n n (omega arith))
