-- A store of terms that is made for the keys of a function, and walked over.
use Rattle.std.proofs.Common.{◌≡◌, ◌≤◌, ◌+◌, List, [], ◌∷◌, map, refl, sym, ap, subst, ◌∙◌, arith}
use Rattle.stk_ctype.specs.declared.kind.IntKind.{IntKind}
use Rattle.stk_tree.specs.Syntax.{FunctionTree}
use Rattle.stk_numbers.specs.Kinds.{width_of}
use Rattle.stk_meaning.specs.Keys as keys
use Rattle.stk_meaning.specs.Keys.{keys_of}
use Rattle.stk_meaning.specs.Lists.{candidates}
use Rattle.stk_meaning.specs.Weights.{weight}
use Rattle.stk_function_types.specs.Nodes.{typing_in}
use Rattle.stk_function_env.specs.declared.infos.KeyInfo.{KeyInfo}
use Rattle.stk_function_env.specs.Infos.{info_in}
use Rattle.stk_walk.specs.Rows.{Tables}
use Rattle.stk_terms.specs.declared.term.TermId.{TermId}
use Rattle.stk_terms.specs.Terms.{Stored, no_terms}
use Rattle.stk_terms.specs.Cost.{total_cost}
use Rattle.stk_values.specs.declared.walked.Walked.{Walked}
use Rattle.stk_values.specs.Walks.{event_of}
use Rattle.stk_walking.specs.Keyed.{AreThere}
use Rattle.stk_run_laws.proofs.Agreeing.{one_condition_serves_all}
use Rattle.stk_spending.specs.Functions.{function_spent}
use Rattle.stk_event_laws.specs.Listed.{body_events}
use Rattle.stk_event_laws.specs.Positions.{listed_event}
use Rattle.stk_symbols.specs.Symbolic.{Symbolic, HasKey}
use Rattle.stk_goals.specs.Searched.{IsSearched}
use Rattle.stk_goals.proofs.Searched.{keys_are_there}
use Rattle.stk_goals.specs.Queries.{key_kinds}
use Rattle.stk_goals.specs.Goals.{most_added, AreGoalsOf}
use Rattle.stk_goals.proofs.Little.{goals_add_little}
use Rattle.stk_goals.proofs.Standing.{SaysRuns, walked_goals}

info_kinds : (infos : List KeyInfo) → map (λ (k : keys.KeyInfo). k.kind) (map info_in infos) ≡ map (λ (k : KeyInfo). k.kind) infos
info_kinds [] = refl
info_kinds (k ∷ ks) = ap (λ xs. k.kind ∷ xs) (info_kinds ks)

module _ (t : Tables) (f : FunctionTree) (h : IsSearched t f) where
  -- the kinds of the keys of the tables are those of the function's keys
  pub kinds_made : (infos : List KeyInfo) (kinds : List IntKind) → map info_in infos ≡ t.places.keys → kinds ≡ map (λ (k : KeyInfo). k.kind) infos → kinds ≡ key_kinds (typing_in t.places.types) t.places.without f
  kinds_made infos kinds shown made = made ∙ sym (info_kinds infos) ∙ ap (map (λ (k : keys.KeyInfo). k.kind)) (shown ∙ h.walkable.keys)

  module _ (before : Symbolic) (kinds : List IntKind) (same : kinds ≡ key_kinds (typing_in t.places.types) t.places.without f) (kept : before.kinds ≡ kinds) (empty : before.terms ≡ no_terms (map width_of kinds)) where
    pub keys_there : AreThere (HasKey before) (key_kinds (typing_in t.places.types) t.places.without f)
    keys_there = subst (AreThere (HasKey before)) same (keys_are_there kinds before kept empty)

    -- a store without terms costs nothing, so what the walk made costs what the walk may cost at most
    cheap_walk : (now : Symbolic) (w : Walked TermId) → map (λ x. event_of x) w.steps ≡ map (listed_event (candidates (typing_in t.places.types) f)) (body_events (typing_in t.places.types) t.places.without f)
        → total_cost now.terms ≤ total_cost before.terms + function_spent (typing_in t.places.types) t.places.without f → total_cost now.terms + most_added w.steps ≤ weight (typing_in t.places.types) t.places.without f
    cheap_walk now w listed cost =
        let less = one_condition_serves_all (typing_in t.places.types) t.places.without f h.walkable.typed in
        let little = goals_add_little (typing_in t.places.types) t.places.without f less.numbered less.operands w.steps listed in
        let none : total_cost before.terms ≡ 0 = ap total_cost empty in
        let all = h.cheap in
        omega (arith, little, none, cost, all)

    pub goals_made : (now : Symbolic) (w : Walked TermId) → SaysRuns (typing_in t.places.types) t.places.without f before now w
        → map (λ x. event_of x) w.steps ≡ map (listed_event (candidates (typing_in t.places.types) f)) (body_events (typing_in t.places.types) t.places.without f)
        → total_cost now.terms ≤ total_cost before.terms + function_spent (typing_in t.places.types) t.places.without f → AreGoalsOf (typing_in t.places.types) t.places.without f now w
    goals_made now w says listed cost =
        walked_goals (typing_in t.places.types) t.places.without f before now w (kept ∙ same) (ap (λ (x : Stored). x.inputs) empty ∙ ap (map width_of) (sym kept)) says (cheap_walk now w listed cost) h.light
