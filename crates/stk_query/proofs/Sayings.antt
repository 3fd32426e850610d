-- What follows from a verdict.
use Rattle.std.proofs.Common.{◌≡◌, ℕ, ◌≤◌, true, refl, Option, Some, None, arith}
use Rattle.std.specs.Prelude.{is_some, sum, MatchOption}
use Rattle.stk_terms.specs.Terms.{Stored}
use Rattle.stk_clauses.specs.declared.store.Cnf.{Cnf}
use Rattle.stk_clauses.specs.declared.derivation.Derivation.{Derivation}
use Rattle.stk_clauses.specs.Derivations.{IsRefutation}
use Rattle.stk_goal_clauses.specs.Standing.{StandsForGoal}
use Rattle.stk_goal_clauses.specs.Laws.{IsNever}
use Rattle.stk_goal_clauses.proofs.Goals.{never}
use Rattle.stk_clauses.proofs.Steps.{refutation_sound}
use Rattle.stk_query.specs.declared.verdict.Verdict.{Verdict}
use Rattle.stk_query.specs.declared.verdict.Verdict.TheVariants.{Satisfied, Tried, Refuted, Undecided}
use Rattle.stk_query.specs.Verdicts.{is_no, IsVerdict}

-- a verdict of no is right
pub no_never : (s : Stored) (i budget : ℕ) (v : Verdict) → IsVerdict s i budget v → is_no v ≡ true → IsNever s i
no_never s i budget (Satisfied residues) h e = absurd (cc)
no_never s i budget Tried h e = h.1
no_never s i budget (Refuted list derivation) h e = never s i list h.1 (refutation_sound list.vars list.store derivation.steps h.3)
no_never s i budget (Undecided list log) h e = absurd (cc)

-- of at most 16 bits, none of which make the goal 1, there is one verdict
pub never_tried : (s : Stored) (i budget : ℕ) (v : Verdict) → IsVerdict s i budget v → sum s.inputs ≤ 16 → IsNever s i → v ≡ Tried
never_tried s i budget (Satisfied residues) h few n = absurd (n residues.numbers h.0.fit h.0.one)
never_tried s i budget Tried h few n = refl
never_tried s i budget (Refuted list derivation) h few n = absurd (omega (arith, h.0, few))
never_tried s i budget (Undecided list log) h few n = absurd (omega (arith, h.0, few))

-- where clauses that stand for a goal are refuted, no inputs make it 1
pub refuted_never : (s : Stored) (i : ℕ) (list : Cnf) (d : Derivation) (r : Option Derivation) → StandsForGoal s i list → MatchOption r (IsRefutation list.vars list.store d.steps → ⊥) (λ e. (e ≡ d) × IsRefutation list.vars list.store e.steps) → is_some r ≡ true → IsNever s i
refuted_never s i list d (Some e) stands h is = never s i list stands (refutation_sound list.vars list.store e.steps h.1)
refuted_never s i list d None stands h is = absurd (cc)
