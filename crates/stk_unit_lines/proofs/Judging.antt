-- Functions that are judged: where their candidates stand, and what their lines are.
use Rattle.std.proofs.Common.{◌≡◌, ℕ, ◌<◌, ◌≤◌, Bool, true, false, List, [], ◌∷◌, length, get_or, Option, Some, refl, sym, ap, subst, ◌∙◌, arith}
use Rattle.std.specs.Prelude.{slice_get, nat_eq, nat_le}
use Rattle.std.proofs.lemmas.Option.{slice_get-get_or}
use Rattle.std.proofs.lemmas.Bool.{leb-true, leb-false, eqb-true}
use Rattle.stk_tree.specs.Syntax.{FunctionTree}
use Rattle.stk_tree.specs.View.{view_unit}
use Rattle.stk_numbers.specs.declared.conditions.Candidate.{Candidate}
use Rattle.stk_meaning.specs.Lists.{candidates}
use Rattle.stk_meaning.specs.Keys.{keys_of, input_bits}
use Rattle.stk_meaning.specs.declared.finding.Finding.{Finding}
use Rattle.stk_meaning.specs.Findings.{Subject, AreLawful}
use Rattle.stk_run_laws.specs.TypedTree.{IsTypedTree}
use Rattle.stk_function_types.specs.Units.{TypedUnit}
use Rattle.stk_function_types.specs.Nodes.{typing_in}
use Rattle.stk_function_env.specs.Settings.{FunctionPlaces}
use Rattle.stk_findings.specs.Wide.{AskedFunction, IsPlaced}
use Rattle.stk_findings.specs.Searched.{searched_subject}
use Rattle.stk_records.specs.declared.counts.Counts.{Counts}
use Rattle.stk_records.specs.declared.line.Line.{Line}
use Rattle.stk_spelling.specs.Placed.{placed_in}
use Rattle.stk_unit_lines.specs.Lines.{findings_lines}
use Rattle.stk_unit_lines.specs.Functions.{function_keys}
use Rattle.stk_unit_lines.specs.Parts.{IsJudged, AreFindingLines}
use Rattle.stk_unit_lines.proofs.Typed.{all_whole, have_findings}

-- a candidate stands at its place in the list of all
pub is_placed : (a : AskedFunction) (cs : List Candidate) (i : ℕ) (d : Candidate) → cs ≡ candidates a.typing a.tree → i < length cs → IsPlaced a i (get_or cs i d)
is_placed a cs i d same within = subst (λ (xs : List Candidate). slice_get xs i ≡ Some (get_or cs i d)) same (slice_get-get_or cs i d within)

-- ---- by the places of a function's own tables, and by its own setting

module _ (f : FunctionTree) (p q : FunctionPlaces) (t : TypedUnit) (budget : ℕ) (cs : List Candidate) (tables : q ≡ p) (typed : IsTypedTree (typing_in p.types) p.without f) where
  -- candidates have lawful findings
  pub findings_there : (xs : List Finding) × AreLawful (searched_subject (typing_in q.types) q.without f budget) cs xs
  findings_there = subst (λ (x : FunctionPlaces). (xs : List Finding) × AreLawful (searched_subject (typing_in x.types) x.without f budget) cs xs) (sym tables) (have_findings (typing_in p.types) p.without f budget typed cs)

  -- the lines of lawful findings are those of a function that is judged
  pub judged_by : (keys : List (List ℕ)) → t ≡ p.types → cs ≡ candidates (typing_in t) f → keys ≡ function_keys (placed_in t) (typing_in t) p.without f
      → (lines : List Line) (counts : Counts) → AreFindingLines (searched_subject (typing_in q.types) q.without f budget) (placed_in t) (typing_in t) f keys cs lines counts → IsJudged p.types.bytes p.without budget p.types.entries (view_unit p.types.unit) f lines counts
  judged_by keys types listed spelled lines counts j =
      let here : cs ≡ candidates (typing_in p.types) f = listed ∙ ap (λ (x : TypedUnit). candidates (typing_in x) f) types in
      let lawful = subst (λ (x : FunctionPlaces). AreLawful (searched_subject (typing_in x.types) x.without f budget) cs j.findings) tables j.lawful in
      record {
        findings = j.findings;
        lawful = all_whole (typing_in p.types) p.without f budget typed (candidates (typing_in p.types) f) j.findings (subst (λ (ds : List Candidate). AreLawful (searched_subject (typing_in p.types) p.without f budget) ds j.findings) here lawful);
        same_lines = j.same_lines
            ∙ (λ i. findings_lines (placed_in t) (typing_in t) f (spelled i) (listed i) j.findings)
            ∙ ap (λ (x : TypedUnit). findings_lines (placed_in x) (typing_in x) f (function_keys (placed_in x) (typing_in x) p.without f) (candidates (typing_in x) f) j.findings) types;
        same_counts = j.same_counts;
      }

-- ---- whether there is a candidate

pub no_candidate : (cs : List Candidate) (b : Bool) → b ≡ nat_eq (length cs) 0 → b ≡ true → length cs ≡ 0
no_candidate cs b is told = eqb-true (length cs) 0 (sym is ∙ told)

-- ---- whether all maps are tried

pub narrow : (n : ℕ) (b : Bool) → b ≡ nat_le n 16 → b ≡ true → n ≤ 16
narrow n b is told = leb-true n 16 (sym is ∙ told)

pub wide : (n : ℕ) (b : Bool) → b ≡ nat_le n 16 → b ≡ false → 16 < n
wide n b is told = omega (arith, leb-false n 16 (sym is ∙ told))
