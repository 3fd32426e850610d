-- The script of a query denotes what answers it.
use Rattle.std.proofs.Common.{◌≡◌, ℕ, ◌+◌, ◌<◌, ◌≤◌, ◌^◌, List, [], ◌∷◌, length, map, refl, sym, ap, subst, ◌∙◌}
use Rattle.std.specs.Prelude.{◌↔◌, Some, slice_get}
use Rattle.stk_tree.specs.Syntax.{FunctionTree}
use Rattle.stk_numbers.specs.Kinds.{width_of}
use Rattle.stk_numbers.specs.declared.conditions.Candidate.{Candidate}
use Rattle.stk_numbers.specs.declared.conditions.Condition.{Condition}
use Rattle.stk_numbers.specs.declared.conditions.Kinds.{Kinds}
use Rattle.stk_meaning.specs.Typings.{Typing}
use Rattle.stk_meaning.specs.Keys.{KeyInfo, keys_of, function_visits, setting_of, body_of}
use Rattle.stk_meaning.specs.Weights.{weight, most_weight}
use Rattle.stk_run_laws.specs.Visits.{EachVisit, IsNumbered}
use Rattle.stk_run_laws.specs.TypedTree.{IsTypedTree}
use Rattle.stk_kinded.specs.KindedStatements.{KindedFunction}
use Rattle.stk_type_laws.specs.Bits.{VisitHasBits}
use Rattle.stk_function_types.specs.Nodes.{typing_in}
use Rattle.stk_function_env.specs.Settings.{FunctionPlaces, setting_in}
use Rattle.stk_eval_expr.specs.Loops.{EachLoop}
use Rattle.stk_goals.specs.Rows.{Tables, Knows}
use Rattle.stk_units.specs.Units.{IsSettingOfFunction}
use Rattle.stk_goals.specs.Searched.{IsSearched}
use Rattle.stk_goals.proofs.Searched.{typed_functions_are_searched}
use Rattle.stk_terms.specs.Terms.{Stored}
use Rattle.stk_terms.specs.Fitting.{AreResidues}
use Rattle.stk_terms.specs.Values.{number_at}
use Rattle.stk_scripts.specs.Scripts.{IsScript, Denotes, widths_in}
use Rattle.stk_spent_queries.specs.Spent.{AnswersByResidues}
use Rattle.stk_smtlib.specs.Written.{script_of, inputs_from}
use Rattle.stk_units.specs.Known.{IsTypedFunction}
use Rattle.stk_units.proofs.Measures.{tables_of}
use Rattle.stk_meaning.specs.Lists.{candidates}
use Rattle.stk_records.specs.declared.options.ConditionSet.{ConditionSet}
use Rattle.stk_query_scripts.specs.Queries.{conditions_of, IsQueryScript, IsCandidateScript}

-- the inputs of a script have the widths of the store's
widths_from : (k : ℕ) (ws : List ℕ) → widths_in (inputs_from k ws) ≡ ws
widths_from k [] = refl
widths_from k (w ∷ ws) = ap (λ vs. w ∷ vs) (widths_from (k + 1) ws)

both : {A B C : Type 0} → A ↔ B → B ↔ C → A ↔ C
both p q = (λ a. q.0 (p.0 a), λ d. p.1 (q.1 d))

pub scripted : (ty : Typing) (without : Kinds) (f : FunctionTree) (c : Candidate) (set : List Condition) (s written : Stored) (goal : ℕ) (text : List ℕ) → written ≡ s → IsScript text (script_of written goal) → s.inputs ≡ map (λ k. width_of k.kind) (keys_of ty without f)
    → ((rs : List ℕ) → AreResidues written.inputs rs → Denotes (script_of written goal) rs ↔ (number_at written rs goal ≡ 1))
    → ((rs : List ℕ) → AreResidues s.inputs rs → (number_at s rs goal ≡ 1) ↔ AnswersByResidues ty without f c set rs)
    → IsQueryScript ty without f c set text
scripted ty without f c set s written goal text same is inputs means exact = record {
  script = script_of s goal;
  is = subst (λ (x : Stored). IsScript text (script_of x goal)) same is;
  inputs = widths_from 0 s.inputs ∙ inputs;
  denotes = λ rs residues.
      let here = subst (λ ws. AreResidues ws rs) (widths_from 0 s.inputs) residues in
      let meant = subst (λ (x : Stored). AreResidues x.inputs rs → Denotes (script_of x goal) rs ↔ (number_at x rs goal ≡ 1)) same (means rs) in
      both (meant here) (exact rs here);
}

-- the kinds of keys have the widths of the keys
pub key_widths : (ty : Typing) (without : Kinds) (f : FunctionTree) (ws : List ℕ) → ws ≡ map width_of (map (λ k. k.kind) (keys_of ty without f)) → ws ≡ map (λ k. width_of k.kind) (keys_of ty without f)
key_widths ty without f ws e = e ∙ on (keys_of ty without f) where
  on : (ks : List KeyInfo) → map width_of (map (λ (k : KeyInfo). k.kind) ks) ≡ map (λ (k : KeyInfo). width_of k.kind) ks
  on [] = refl
  on (k ∷ ks) = ap (λ vs. width_of k.kind ∷ vs) (on ks)

-- a function that is accepted, typed and not too heavy is searched, by tables of its own setting
pub searched : (f : FunctionTree) (t : Tables) (p : FunctionPlaces) → t.places ≡ p → IsSettingOfFunction f p → EachLoop (Knows (setting_in p) p.keys t.rows) (body_of f) → IsTypedFunction (typing_in p.types) p.without f → weight (typing_in p.types) p.without f ≤ most_weight → IsSearched t f
searched f t p e of loops typed light =
    typed_functions_are_searched t f
    (record {
      typed = subst (λ (x : FunctionPlaces). IsTypedTree (typing_in x.types) x.without f) (sym e) typed.typed;
      kinded = subst (λ (x : FunctionPlaces). KindedFunction (setting_of (typing_in x.types) x.without f) f) (sym e) typed.kinded;
      bits = subst (λ (x : FunctionPlaces). EachVisit (VisitHasBits (typing_in x.types)) (function_visits (typing_in x.types) f)) (sym e) typed.bits;
      tables = tables_of f t p e of loops;
      light = subst (λ (x : FunctionPlaces). weight (typing_in x.types) x.without f ≤ most_weight) (sym e) light;
    })

-- a function that is searched has few candidates
pub few_places : (f : FunctionTree) (t : Tables) (p : FunctionPlaces) → t.places ≡ p → IsSearched t f → length (candidates (typing_in p.types) f) < 2 ^ 32
few_places f t p e s = subst (λ (x : FunctionPlaces). length (candidates (typing_in x.types) f) < 2 ^ 32) e s.few

-- the script of the candidate at a place, by the tables of the function's own setting
pub script_there : (f : FunctionTree) (p q : FunctionPlaces) → q ≡ p → (set : ConditionSet) (at : ℕ) (c : Candidate) (text : List ℕ) (cs : List Candidate) {all : List Condition} → cs ≡ candidates (typing_in p.types) f → slice_get cs at ≡ Some c
    → IsQueryScript (typing_in q.types) q.without f c all text → all ≡ conditions_of set (typing_in p.types) p.without f → IsCandidateScript (typing_in p.types) p.without f at set text
script_there f p q same set at c text cs {all} listed stands made set_is = record {
  candidate = c;
  stands = subst (λ (xs : List Candidate). slice_get xs at ≡ Some c) listed stands;
  script = subst (λ (xs : List Condition). IsQueryScript (typing_in p.types) p.without f c xs text) set_is (subst (λ (x : FunctionPlaces). IsQueryScript (typing_in x.types) x.without f c all text) same made);
}
