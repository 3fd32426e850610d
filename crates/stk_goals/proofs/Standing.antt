-- A store and a walk are those of the goals of a function: when it was walked, and behind each goal.
use Rattle.std.proofs.Common.{◌≡◌, ◌+◌, ◌≤◌, List, ℤ, map, sym, ap, ◌∙◌}
use Rattle.stk_ctype.specs.declared.kind.IntKind.TheVariants.{Int}
use Rattle.stk_tree.specs.Syntax.{FunctionTree}
use Rattle.stk_numbers.specs.Kinds.{width_of}
use Rattle.stk_numbers.specs.declared.conditions.Kinds.{Kinds}
use Rattle.stk_meaning.specs.Typings.{Typing}
use Rattle.stk_meaning.specs.Paths.{path}
use Rattle.stk_meaning.specs.Lists.{candidates}
use Rattle.stk_meaning.specs.Weights.{weight, most_weight}
use Rattle.stk_terms.specs.declared.term.TermId.{TermId}
use Rattle.stk_terms.specs.Cost.{total_cost}
use Rattle.stk_terms.specs.Growth as growth
use Rattle.stk_terms.proofs.Adding.{keeps_same}
use Rattle.stk_terms.proofs.Older.{keeps_then}
use Rattle.stk_values.specs.declared.walked.Walked.{Walked}
use Rattle.stk_values.specs.Keeping.{Keeps, truth}
use Rattle.stk_values.specs.Walks.{Says, event_of}
use Rattle.stk_event_laws.specs.Listed.{StandOnce}
use Rattle.stk_event_laws.specs.Positions.{listed_events}
use Rattle.stk_symbols.specs.Symbolic.{Symbolic, Serves, HasKey, IsMade, Shows}
use Rattle.stk_goals.specs.Queries.{key_kinds, has_addresses}
use Rattle.stk_goals.specs.Goals.{most_added, MadeWalk, AreGoalsOf}
use Rattle.stk_symbols.proofs.Stepping.{tests_later, says_later}
use Rattle.stk_goals.proofs.SameKinds.{same_kinds, still_inputs}

module _ (ty : Typing) (without : Kinds) (f : FunctionTree) where
  -- what a walk over a new store says
  pub record SaysRuns (before now : Symbolic) (w : Walked TermId) : Type 0 where
    pub made : MadeWalk now w
    pub valid : (m : List ℤ) → Serves before m → Shows now m Int w.valid (truth (has_addresses ty without f m))
    pub steps : (m : List ℤ) → Serves before m → Says (λ v b. Shows now m Int v (truth b)) w.steps (listed_events (candidates ty f) (path ty without f m))
    pub once : StandOnce (map (λ x. event_of x) w.steps)
    pub keeps : Keeps Serves HasKey IsMade Shows before now

  pub walked_goals : (before now : Symbolic) (w : Walked TermId) → before.kinds ≡ key_kinds ty without f → before.terms.inputs ≡ map width_of before.kinds → SaysRuns before now w
      → total_cost now.terms + most_added w.steps ≤ weight ty without f → weight ty without f ≤ most_weight → AreGoalsOf ty without f now w
  walked_goals before now w kinds inputs h cheap light = record {
    kinds = same_kinds before now h.keeps inputs ∙ kinds;
    inputs = still_inputs before now h.keeps inputs;
    made = h.made;
    valid = λ m served. h.valid m (h.keeps.served_before m served);
    steps = λ m served. h.steps m (h.keeps.served_before m served);
    once = h.once;
    cheap = record { first = now; made = h.made; grown = keeps_same now.terms; cheap = cheap };
    light = light;
  }

  -- behind a goal, which leaves the keys and keeps the terms
  pub goals_stay : (s now : Symbolic) (w : Walked TermId) → AreGoalsOf ty without f s w → now.kinds ≡ s.kinds → growth.Keeps s.terms now.terms → Keeps Serves HasKey IsMade Shows s now → AreGoalsOf ty without f now w
  goals_stay s now w h kinds grown keeps = record {
    kinds = kinds ∙ h.kinds;
    inputs = grown.inputs_stay ∙ h.inputs ∙ ap (map width_of) (sym kinds);
    made = record {
      valid = keeps.made_still Int w.valid h.made.valid;
      steps = tests_later (IsMade s Int) (IsMade now Int) w.steps (keeps.made_still Int) h.made.steps;
    };
    valid = λ m served. keeps.shown m Int w.valid (truth (has_addresses ty without f m)) (h.valid m (keeps.served_before m served));
    steps = λ m served.
        says_later (λ v b. Shows s m Int v (truth b)) (λ v b. Shows now m Int v (truth b)) w.steps (listed_events (candidates ty f) (path ty without f m)) (λ v b. keeps.shown m Int v (truth b))
        (h.steps m (keeps.served_before m served));
    once = h.once;
    cheap = record {
      first = h.cheap.first;
      made = h.cheap.made;
      grown = keeps_then h.cheap.first.terms s.terms now.terms h.cheap.grown grown;
      cheap = h.cheap.cheap;
    };
    light = h.light;
  }
