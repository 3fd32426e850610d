-- What the goals of a function are made of: a store of terms, and the walk of the function over it.
use Rattle.std.specs.Prelude.{◌≡◌, ℕ, ◌+◌, ◌*◌, ◌≤◌, List, [], ◌∷◌, ℤ, map}
use Rattle.stk_ctype.specs.declared.kind.IntKind.{IntKind}
use Rattle.stk_ctype.specs.declared.kind.IntKind.TheVariants.{Int}
use Rattle.stk_tree.specs.Syntax.{FunctionTree}
use Rattle.stk_numbers.specs.Kinds.{width_of}
use Rattle.stk_numbers.specs.declared.conditions.Kinds.{Kinds}
use Rattle.stk_meaning.specs.Typings.{Typing}
use Rattle.stk_meaning.specs.Paths.{path}
use Rattle.stk_meaning.specs.Lists.{candidates}
use Rattle.stk_meaning.specs.Weights.{weight, most_weight}
use Rattle.stk_terms.specs.declared.term.TermId.{TermId}
use Rattle.stk_terms.specs.Growth.{Keeps}
use Rattle.stk_terms.specs.Cost.{total_cost}
use Rattle.stk_values.specs.declared.walked.Step.{Step}
use Rattle.stk_values.specs.declared.walked.Step.TheVariants.{Broken, Hit}
use Rattle.stk_values.specs.declared.walked.Walked.{Walked}
use Rattle.stk_values.specs.Keeping.{truth}
use Rattle.stk_values.specs.Walks.{EachTest, Says, event_of}
use Rattle.stk_event_laws.specs.Listed.{StandOnce}
use Rattle.stk_event_laws.specs.Positions.{listed_events}
use Rattle.stk_symbols.specs.Symbolic.{Symbolic, Serves, IsMade, Shows}
use Rattle.stk_goals.specs.Queries.{key_kinds, has_addresses}

-- how many steps tell of a violation
abbrev pub violations : {V : Type 0} → List (Step V) → ℕ
violations [] = 0
violations (Broken k v ∷ xs) = violations xs + 1
violations (Hit j v ∷ xs) = violations xs

-- what a goal adds at most to what a walk's values cost: 3 for each step that tells of a violation, and 6 for the one
-- that tells of a hit of the candidate
abbrev pub most_added : {V : Type 0} → List (Step V) → ℕ
most_added xs = 3 * violations xs + 6

-- a store made the values of a walk, which are tests
pub record MadeWalk (s : Symbolic) (w : Walked TermId) : Type 0 where
  pub valid : IsMade s Int w.valid
  pub steps : EachTest (IsMade s Int) w.steps

-- The store has grown from one that made the values of a walk, and of which no goal of the walk costs more than this.
pub record IsCheapWalk (most : ℕ) (now : Symbolic) (w : Walked TermId) : Type 0 where
  pub first : Symbolic
  pub made : MadeWalk first w
  pub grown : Keeps first.terms now.terms
  pub cheap : total_cost first.terms + most_added w.steps ≤ most

-- A store of terms and a walk are those of the goals of a function. The inputs of the terms are the keys of the
-- function. Under each map that covers them, the walk's first value shows whether the addresses of the map are valid,
-- and its steps say what the path run violates and which candidates it hits, by their places; none says what another
-- one says. No goal costs more than the function weighs, which isn't too heavy to be searched.
pub record AreGoalsOf (ty : Typing) (without : Kinds) (f : FunctionTree) (s : Symbolic) (w : Walked TermId) : Type 0 where
  pub kinds : s.kinds ≡ key_kinds ty without f
  pub inputs : s.terms.inputs ≡ map width_of s.kinds
  pub made : MadeWalk s w
  pub valid : (m : List ℤ) → Serves s m → Shows s m Int w.valid (truth (has_addresses ty without f m))
  pub steps : (m : List ℤ) → Serves s m → Says (λ v b. Shows s m Int v (truth b)) w.steps (listed_events (candidates ty f) (path ty without f m))
  pub once : StandOnce (map (λ x. event_of x) w.steps)
  pub cheap : IsCheapWalk (weight ty without f) s w
  pub light : weight ty without f ≤ most_weight
