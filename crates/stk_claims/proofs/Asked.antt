-- What a verdict on the goal of a claim says of the claim.
use Rattle.std.proofs.Common.{◌≡◌, ℕ, ◌<◌, List, subst, arith}
use Rattle.stk_tree.specs.Syntax.{FunctionTree}
use Rattle.stk_numbers.specs.declared.conditions.Candidate.{Candidate}
use Rattle.stk_numbers.specs.declared.conditions.Condition.{Condition}
use Rattle.stk_numbers.specs.declared.conditions.Kinds.{Kinds}
use Rattle.stk_meaning.specs.Typings.{Typing}
use Rattle.stk_meaning.specs.Keys.{keys_of, input_bits}
use Rattle.stk_terms.specs.Terms.{Stored}
use Rattle.stk_clauses.specs.declared.store.Cnf.{Cnf}
use Rattle.stk_clauses.specs.declared.derivation.Derivation.{Derivation}
use Rattle.stk_query.specs.Verdicts.{IsVerdict}
use Rattle.stk_query.specs.declared.verdict.Verdict.{Verdict}
use Rattle.stk_query.specs.declared.verdict.Verdict.TheVariants.{Satisfied, Tried, Refuted, Undecided}
use Rattle.stk_terms.specs.declared.table.Residues.{Residues}
use Rattle.stk_spent_queries.specs.Spent.{IsSpentQuery}
use Rattle.stk_goals.specs.Queries.{key_kinds, HasNoAnswer, IsGoalOf}
use Rattle.stk_goals.proofs.Answered.{bits_of_goal, stands_for, is_spent, start_answers}
use Rattle.stk_symbols.specs.Maps.{map_of}
use Rattle.stk_claims.specs.Closing.{IsProof}

module _ (ty : Typing) (without : Kinds) (f : FunctionTree) (c : Candidate) (set : List Condition) (s : Stored) (i : ℕ) (h : IsGoalOf ty without f c set s i) (budget : ℕ) (v : Verdict) (is : IsVerdict s i budget v) where
  -- a refutation proves the claim
  pub proved : (list : Cnf) (d : Derivation) → v ≡ Refuted list d → IsProof ty without f c set budget list d
  proved list d e =
      let k = subst (IsVerdict s i budget) e is in
      let same = bits_of_goal ty without f c set s i h in
      let wide = k.0 in
      let within = k.2 in
      let cheap = h.within in
      record { wide = omega (arith, wide, same); stands = stands_for ty without f c set s i h list k.1; within = omega (arith, within, same, cheap); refutes = k.3; short = k.4 }

  -- where it was given up, its query is spent
  pub spent : (list : Cnf) (log : Derivation) → v ≡ Undecided list log → IsSpentQuery ty without f c set budget
  spent list log e =
      let k = subst (IsVerdict s i budget) e is in
      is_spent ty without f c set s i h budget list log k.0 k.1 k.2 k.3

  -- no start comes of a claim that holds
  pub no_start : (found : Residues) → v ≡ Satisfied found → HasNoAnswer ty without f c set → ⊥
  no_start found e none =
      let k = subst (IsVerdict s i budget) e is in
      none (map_of (key_kinds ty without f) found.numbers) (start_answers ty without f c set s i h found.numbers k.0)

  -- and not all maps of a function of many input bits are tried
  pub not_tried : v ≡ Tried → 16 < input_bits (keys_of ty without f) → ⊥
  not_tried e wide =
      let k = subst (IsVerdict s i budget) e is in
      let same = bits_of_goal ty without f c set s i h in
      let few = k.0 in
      omega (arith, wide, same, few)
