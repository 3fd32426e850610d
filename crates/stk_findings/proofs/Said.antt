-- What a verdict on the goal of a query says of the query.
use Rattle.std.proofs.Common.{◌≡◌, ℕ, true, ◌⊎◌, inl, inr, List, ℤ, sym, ap, subst, ◌∙◌}
use Rattle.stk_ctype.specs.declared.kind.IntKind.{IntKind}
use Rattle.stk_tree.specs.Syntax.{FunctionTree}
use Rattle.stk_numbers.specs.declared.conditions.Candidate.{Candidate}
use Rattle.stk_numbers.specs.declared.conditions.Condition.{Condition}
use Rattle.stk_numbers.specs.declared.conditions.Kinds.{Kinds}
use Rattle.stk_meaning.specs.Typings.{Typing}
use Rattle.stk_terms.specs.declared.table.Residues.{Residues}
use Rattle.stk_terms.specs.Terms.{Stored}
use Rattle.stk_symbols.specs.Maps.{map_of}
use Rattle.stk_clauses.specs.declared.store.Cnf.{Cnf}
use Rattle.stk_clauses.specs.declared.derivation.Derivation.{Derivation}
use Rattle.stk_goal_clauses.specs.Laws.{MakesOne, IsNever}
use Rattle.stk_query.specs.Verdicts.{is_no, IsVerdict}
use Rattle.stk_query.specs.declared.verdict.Verdict.{Verdict}
use Rattle.stk_query.specs.declared.verdict.Verdict.TheVariants.{Satisfied, Tried, Refuted, Undecided}
use Rattle.stk_spent_queries.specs.Spent.{IsSpentQuery}
use Rattle.stk_goals.specs.Queries.{key_kinds, AnswersQuery, HasNoAnswer, IsGoalOf}
use Rattle.stk_goals.proofs.Answered.{start_answers, none_answers, is_spent}

-- the residues of a verdict make the goal 1
pub makes_of : (s : Stored) (i budget : ℕ) (v : Verdict) (found : Residues) → v ≡ Satisfied found → IsVerdict s i budget v → MakesOne s i found.numbers
makes_of s i budget v found is h = (subst (IsVerdict s i budget) is h).0

-- an input map whose residues make a query's goal 1 answers the query
pub said_start : (ty : Typing) (without : Kinds) (f : FunctionTree) (c : Candidate) (set : List Condition) (s : Stored) (i : ℕ) → IsGoalOf ty without f c set s i
    → (found : List ℕ) (kinds : List IntKind) (numbers : List ℤ) → MakesOne s i found → kinds ≡ key_kinds ty without f → numbers ≡ map_of kinds found → AnswersQuery ty without f c set numbers
said_start ty without f c set s i h found kinds numbers makes same made =
    subst (AnswersQuery ty without f c set) (sym (made ∙ ap (λ l. map_of l found) same)) (start_answers ty without f c set s i h found makes)

-- verdicts that say that no inputs make a goal 1
pub says_no : (v : Verdict) → (v ≡ Tried) ⊎ ((list : Cnf) × (derivation : Derivation) × (v ≡ Refuted list derivation)) → is_no v ≡ true
says_no v (inl e) = ap is_no e
says_no v (inr h) = ap is_no h.2

module _ (ty : Typing) (without : Kinds) (f : FunctionTree) (c : Candidate) (set : List Condition) (s : Stored) (i : ℕ) (h : IsGoalOf ty without f c set s i) (budget : ℕ) (v : Verdict) where
  pub said_never : is_no v ≡ true → (is_no v ≡ true → IsNever s i) → HasNoAnswer ty without f c set
  said_never is never = none_answers ty without f c set s i h (never is)

  pub said_spent : (list : Cnf) (log : Derivation) → v ≡ Undecided list log → IsVerdict s i budget v → IsSpentQuery ty without f c set budget
  said_spent list log is verdict =
      let u = subst (IsVerdict s i budget) is verdict in
      is_spent ty without f c set s i h budget list log u.0 u.1 u.2 u.3
