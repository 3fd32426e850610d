-- What a bundle says of units is told as texts with marks.
use Rattle.std.proofs.Common.{◌≡◌, ℕ, ◌+◌, ◌*◌, ◌<◌, Bool, List, [], ◌∷◌, ◌++◌, length, Option, append_assoc, refl, sym, ap, ◌∙◌, arith}
use Rattle.stk_lex.specs.declared.token.Token.{Token}
use Rattle.stk_ctype.specs.declared.symbol.NameEntry.{NameEntry}
use Rattle.stk_tree.specs.Syntax as s
use Rattle.stk_numbers.specs.declared.conditions.Kinds.{Kinds}
use Rattle.stk_meaning.specs.Lists.{candidates}
use Rattle.stk_type_laws.proofs.FewCandidates.{few_candidates}
use Rattle.stk_bundle.specs.Bundles.{parts_text}
use Rattle.stk_claims.proofs.Texts.{parts_append}
use Rattle.stk_records.specs.declared.counts.Counts.{Counts}
use Rattle.stk_units.specs.Functions.{unit_typing}
use Rattle.stk_units.specs.Outcomes.{UnitOutcome, IsOutcome, declaring, refusing, leaving, judging}
use Rattle.stk_units.proofs.Measures.{small}
use Rattle.stk_units.proofs.Typed.{orderly_behind}
use Rattle.stk_units.proofs.Counts.{AreAtMost, nothing_most, skipped_most, judged_most, length_same}
use Rattle.stk_units.proofs.Going.{AreTold}
use Rattle.stk_bundles.specs.Units.{FunctionPart, said_lines, said_text, said_marks, IsOutcomePart, IsUnitPart}

lines_more : (xs ys : List FunctionPart) → said_lines (xs ++ ys) ≡ said_lines xs ++ said_lines ys
lines_more [] ys = refl
lines_more (x ∷ xs) ys = ap (λ ls. x.lines ++ ls) (lines_more xs ys) ∙ sym (append_assoc x.lines (said_lines xs) (said_lines ys))

text_more : (xs ys : List FunctionPart) → said_text (xs ++ ys) ≡ said_text xs ++ said_text ys
text_more xs ys = ap parts_text (lines_more xs ys) ∙ parts_append (said_lines xs) (said_lines ys)

marks_more : (xs ys : List FunctionPart) → said_marks (xs ++ ys) ≡ said_marks xs + said_marks ys
marks_more [] ys = omega arith
marks_more (x ∷ xs) ys = omega (arith, marks_more xs ys)

module _ (bytes : List ℕ) (without : Kinds) (budget : ℕ) where
  -- a unit counts for at most 80,000 a token
  few_by : (mark : Bool) (es now : List NameEntry) (body : Option ℕ) (tokens : List Token) (said : List FunctionPart) (counts : Counts) (x : UnitOutcome) → 0 < length tokens → IsOutcome bytes without mark es body tokens x now → IsOutcomePart bytes without budget now tokens x said counts → AreAtMost (80000 * length tokens) counts
  few_by mark es now body tokens said counts x some (declaring u h none) e = rw e.1 (nothing_most (80000 * length tokens))
  few_by mark es now body tokens said counts x some (refusing cause h) e = rw e.1 (skipped_most (80000 * length tokens) (omega (arith, some)))
  few_by mark es now body tokens said counts x some (leaving n f cause h because) e = rw e.1 (skipped_most (80000 * length tokens) (omega (arith, some)))
  few_by mark es now body tokens said counts x some (judging n f h none) (part, same, is) =
      let ty = unit_typing bytes now (s.defines n f) in
      let nodes = (small bytes without now (s.defines n f) none).nodes in
      rw is.same_counts (judged_most (80000 * length tokens) is.findings (omega (arith, some)) (omega (arith, few_candidates ty f n, nodes, length_same _ (candidates ty f) is.findings is.claimed.lawful, some)))

  pub units_are_told : AreTold (IsUnitPart bytes without budget) said_text said_marks
  units_are_told = record {
    no_text = refl;
    more_text = text_more;
    no_marks = refl;
    more_marks = marks_more;
    leaves_orderly = λ mark es now body unit said counts orderly h. orderly_behind bytes without mark es now body unit h.outcome orderly h.is;
    counts_few = λ mark es now body unit said counts some h. few_by mark es now body unit said counts h.outcome some h.is h.part;
  }
