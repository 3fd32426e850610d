-- A term that is made for a query from the walk of a function is a goal of the query.
use Rattle.std.proofs.Common.{◌≡◌, ℕ, ◌+◌, ◌≤◌, Bool, ◌&&◌, List, ℤ, map, slice_get, Some, sym, ap, subst, ◌∙◌, arith}
use Rattle.stk_ctype.specs.declared.kind.IntKind.{IntKind}
use Rattle.stk_ctype.specs.declared.kind.IntKind.TheVariants.{Int}
use Rattle.stk_tree.specs.Syntax.{FunctionTree}
use Rattle.stk_numbers.specs.Kinds.{width_of}
use Rattle.stk_numbers.specs.declared.conditions.Candidate.{Candidate}
use Rattle.stk_numbers.specs.declared.conditions.Condition.{Condition}
use Rattle.stk_numbers.specs.declared.conditions.Kinds.{Kinds}
use Rattle.stk_meaning.specs.Typings.{Typing}
use Rattle.stk_meaning.specs.Paths.{path}
use Rattle.stk_meaning.specs.Lists.{candidates}
use Rattle.stk_meaning.specs.Hits.{is_hit_free}
use Rattle.stk_terms.specs.declared.term.TermId.{TermId}
use Rattle.stk_terms.specs.Values.{bit, number_at}
use Rattle.stk_terms.specs.Cost.{cost, total_cost}
use Rattle.stk_terms.specs.Growth as growth
use Rattle.stk_values.specs.declared.walked.Walked.{Walked}
use Rattle.stk_values.specs.Keeping.{truth}
use Rattle.stk_values.specs.Walks.{ListedEvent, EachTest, Says}
use Rattle.stk_event_laws.specs.Positions.{listed_events}
use Rattle.stk_symbols.specs.Goals as goals
use Rattle.stk_symbols.specs.Symbolic.{Symbolic, Covers, residues_of, Serves, IsMade, Shows}
use Rattle.stk_goals.specs.Queries.{has_addresses, IsGoalOf}
use Rattle.stk_goals.specs.Goals.{AreGoalsOf}
use Rattle.stk_goals.proofs.Steps.{charge_few}
use Rattle.stk_goals.proofs.Answered.{by_position}

-- what is known of a term that is made for a candidate and a set
pub record IsMadeFor (s now : Symbolic) (w : Walked TermId) (j : ℕ) (set : List Condition) (v : ℕ) : Type 0 where
  pub value : (m : List ℤ) (b : Bool) (events : List ListedEvent) → Serves s m → Shows s m Int w.valid (truth b) → Says (λ x y. Shows s m Int x (truth y)) w.steps events → number_at now.terms (residues_of s.kinds m) v ≡ bit (b && goals.is_hit_free set j events)
  pub within : (first : Symbolic) → IsMade first Int w.valid → EachTest (IsMade first Int) w.steps → growth.Keeps first.terms s.terms → cost now.terms v ≤ total_cost first.terms + goals.goal_charge set j w.steps

module _ (ty : Typing) (without : Kinds) (f : FunctionTree) (c : Candidate) (set : List Condition) where
  pub is_goal : (s now : Symbolic) (w : Walked TermId) (j v : ℕ) → AreGoalsOf ty without f s w → slice_get (candidates ty f) j ≡ Some c → growth.Keeps s.terms now.terms → IsMadeFor s now w j set v → IsGoalOf ty without f c set now.terms v
  is_goal s now w j v h at grown k = record {
    inputs = grown.inputs_stay ∙ h.inputs ∙ ap (map width_of) h.kinds;
    exact = λ m covers.
        let served : Serves s m = record { covers = subst (λ ks. Covers ks m) (sym h.kinds) covers; inputs_are = h.inputs } in
        let e = k.value m (has_addresses ty without f m) (listed_events (candidates ty f) (path ty without f m)) served (h.valid m served) (h.steps m served) in
        subst (λ (ks : List IntKind). number_at now.terms (residues_of ks m) v ≡ bit (has_addresses ty without f m && is_hit_free set c (path ty without f m))) h.kinds
        (e ∙ ap (λ b. bit (has_addresses ty without f m && b)) (by_position ty without f c set j m at));
    within =
        let e = k.within h.cheap.first h.cheap.made.valid h.cheap.made.steps h.cheap.grown in
        let few = charge_few set j w.steps h.once in
        let cheap = h.cheap.cheap in
        omega (arith, e, few, cheap);
  }
