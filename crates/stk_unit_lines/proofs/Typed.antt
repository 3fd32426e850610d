-- What suffices in path runs suffices in every execution, since the trees of accepted functions are typed; and units
-- leave orderly names.
use Rattle.std.proofs.Common.{ℕ, Bool, List, [], ◌∷◌, Option, refl}
use Rattle.stk_lex.specs.declared.token.Token.{Token}
use Rattle.stk_ctype.specs.declared.symbol.NameEntry.{NameEntry}
use Rattle.stk_tree.specs.Syntax.{FunctionTree}
use Rattle.stk_numbers.specs.declared.conditions.Candidate.{Candidate}
use Rattle.stk_numbers.specs.declared.conditions.Kinds.{Kinds}
use Rattle.stk_type_laws.specs.Orderly.{AreOrderly}
use Rattle.stk_meaning.specs.Typings.{Typing}
use Rattle.stk_run_laws.specs.TypedTree.{IsTypedTree}
use Rattle.stk_run_laws.proofs.GatheredLaws.{what_suffices_in_paths_suffices}
use Rattle.stk_finding_laws.proofs.Paths.{function_findings}
use Rattle.stk_meaning.specs.declared.finding.Finding.{Finding}
use Rattle.stk_meaning.specs.Findings.{IsLawful, AreLawful}
use Rattle.stk_meaning.specs.PathFindings.{function_subject}
use Rattle.stk_spent_queries.specs.Spent.{spent_at}
use Rattle.stk_findings.specs.Searched.{searched_subject}
use Rattle.stk_findings.proofs.Agreeing.{Agrees, lawful}
use Rattle.stk_records.specs.declared.counts.Counts.{Counts}
use Rattle.stk_records.specs.declared.line.Line.{Line}
use Rattle.stk_units.proofs.Typed.{orderly_behind}
use Rattle.stk_unit_lines.specs.UnitLines.{IsUnitLines}
use Rattle.stk_unit_lines.proofs.Made.{outcome_of}

-- ---- findings

module _ (ty : Typing) (without : Kinds) (f : FunctionTree) (budget : ℕ) (typed : IsTypedTree ty without f) where
  agrees : Agrees (searched_subject ty without f budget) (function_subject ty without f (spent_at ty without f budget))
  agrees = record {
    maps = λ xs v. v;
    back = λ xs v. v;
    before = λ xs ys q p b. b;
    run = λ xs v. refl;
    conditions = refl;
    all = refl;
    spent = λ c set h. h;
  }

  -- a finding that is lawful by path runs is lawful, executions included
  whole : (c : Candidate) (x : Finding) → IsLawful (searched_subject ty without f budget) c x → IsLawful (function_subject ty without f (spent_at ty without f budget)) c x
  whole c x h =
      lawful (searched_subject ty without f budget) (function_subject ty without f (spent_at ty without f budget)) agrees c
      (λ set u never. what_suffices_in_paths_suffices ty without f typed c set (record { by = λ numbers valid hits. never numbers (record { valid = valid; hits = hits }) })) x h

  pub all_whole : (cs : List Candidate) (xs : List Finding) → AreLawful (searched_subject ty without f budget) cs xs → AreLawful (function_subject ty without f (spent_at ty without f budget)) cs xs
  all_whole [] [] h = tt
  all_whole [] (x ∷ xs) h = absurd h
  all_whole (c ∷ cs) [] h = absurd h
  all_whole (c ∷ cs) (x ∷ xs) h = (whole c x h.0, all_whole cs xs h.1)

  partly : Agrees (function_subject ty without f (spent_at ty without f budget)) (searched_subject ty without f budget)
  partly = record {
    maps = λ xs v. v;
    back = λ xs v. v;
    before = λ xs ys q p b. b;
    run = λ xs v. refl;
    conditions = refl;
    all = refl;
    spent = λ c set h. h;
  }

  all_parts : (cs : List Candidate) (xs : List Finding) → AreLawful (function_subject ty without f (spent_at ty without f budget)) cs xs → AreLawful (searched_subject ty without f budget) cs xs
  all_parts [] [] h = tt
  all_parts [] (x ∷ xs) h = absurd h
  all_parts (c ∷ cs) [] h = absurd h
  all_parts (c ∷ cs) (x ∷ xs) h = (lawful (function_subject ty without f (spent_at ty without f budget)) (searched_subject ty without f budget) partly c (λ set u never. tt) x h.0, all_parts cs xs h.1)

  -- candidates have findings that are lawful by path runs
  pub have_findings : (cs : List Candidate) → (xs : List Finding) × AreLawful (searched_subject ty without f budget) cs xs
  have_findings cs =
      let found = function_findings ty without f (spent_at ty without f budget) (λ c set. what_suffices_in_paths_suffices ty without f typed c set) cs in
      (found.0, all_parts cs found.0 found.1)

-- ---- names

-- units leave orderly names
pub stays_orderly : (bytes : List ℕ) (without : Kinds) (budget : ℕ) (mark : Bool) (es now : List NameEntry) (body : Option ℕ) (tokens : List Token) (lines : List Line) (counts : Counts) → AreOrderly es → IsUnitLines bytes without budget mark es body tokens lines counts now → AreOrderly now
stays_orderly bytes without budget mark es now body tokens lines counts orderly h =
    let x = outcome_of bytes without budget mark es now body tokens lines counts h in
    orderly_behind bytes without mark es now body tokens x.outcome orderly x.is
