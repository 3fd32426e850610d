-- The tables of a function that is judged: they are its own, and it is searched.
use Rattle.std.proofs.Common.{◌≡◌, ℕ, ◌<◌, ◌≤◌, ◌^◌, List, length, sym, ap, subst, ◌∙◌, arith}
use Rattle.stk_ctype.specs.declared.symbol.NameEntry.{NameEntry}
use Rattle.stk_tree.specs.Syntax.{FunctionTree, UnitTree}
use Rattle.stk_tree.specs.Syntax as s
use Rattle.stk_tree.specs.Nodes.{unit_nodes}
use Rattle.stk_tree.specs.declared.unit.Unit.{Unit}
use Rattle.stk_tree.specs.View.{view_unit}
use Rattle.stk_numbers.specs.declared.conditions.Kinds.{Kinds}
use Rattle.stk_meaning.specs.Typings.{Typing}
use Rattle.stk_meaning.specs.Keys.{body_of, keys_of, setting_of, function_visits}
use Rattle.stk_meaning.specs.Weights.{weight, most_weight}
use Rattle.stk_meaning.specs.Lists.{candidates}
use Rattle.stk_type_laws.proofs.FewCandidates.{few_candidates}
use Rattle.stk_run_laws.specs.Visits.{IsNumbered, EachVisit}
use Rattle.stk_run_laws.specs.TypedTree.{IsTypedTree}
use Rattle.stk_kinded.specs.KindedStatements.{KindedFunction}
use Rattle.stk_type_laws.specs.Bits.{VisitHasBits}
use Rattle.stk_function_types.specs.Units.{TypedUnit}
use Rattle.stk_function_types.specs.Nodes.{typing_in}
use Rattle.stk_function_env.specs.Settings.{FunctionPlaces, setting_in}
use Rattle.stk_eval_expr.specs.Loops.{EachLoop}
use Rattle.stk_path_runs.specs.Rows.{Tables, Knows}
use Rattle.stk_goals.specs.Searched as searched
use Rattle.stk_goals.proofs.Searched.{typed_functions_are_searched}
use Rattle.stk_units.specs.Functions.{unit_typing}
use Rattle.stk_units.specs.Known.{IsTypedFunction}
use Rattle.stk_units.proofs.Measures.{of_function, tables_of, numbered, measured_of, light, small}
use Rattle.stk_source_audit.specs.Judged.{IsJudgedUnit}
use Rattle.stk_source_audit.specs.Asked.{AreJudgedTables}

module _ (bytes : List ℕ) (without : Kinds) (now : List NameEntry) (unit : Unit) (f : FunctionTree) (j : IsJudgedUnit bytes without now (view_unit unit) f) where
  -- tables that are made of the unit's own types
  pub judged_tables : (types : TypedUnit) (p : FunctionPlaces) (t : Tables) → types ≡ record { bytes = bytes; unit = unit; entries = now } → setting_in p ≡ setting_of (typing_in types) without f → p.keys ≡ keys_of (typing_in types) without f → p.types ≡ types → t.places ≡ p
      → (IsNumbered (typing_in p.types) f → EachLoop (Knows (setting_in p) p.keys t.rows) (body_of f)) → AreJudgedTables (unit_typing bytes now (view_unit unit)) without f t
  judged_tables types p t is setting keys same places loops = record {
    tables = tables_of f t p places (of_function f p types without setting keys same) (loops (numbered (typing_in p.types) (view_unit unit) f j.is j.read.laid_out));
    typing = ap (λ (q : FunctionPlaces). typing_in q.types) places ∙ ap typing_in same ∙ ap typing_in is;
    kinds = ap (λ (q : FunctionPlaces). q.without) places ∙ ap (λ g. g.without) setting;
  }

  -- a function that is judged is typed, and isn't too heavy
  pub typed_function : IsTypedFunction (unit_typing bytes now (view_unit unit)) without f
  typed_function = let s = small bytes without now (view_unit unit) j.judged in j.typed s.result s.facts s.typed

  pub light_function : weight (unit_typing bytes now (view_unit unit)) without f ≤ most_weight
  light_function =
      let s = small bytes without now (view_unit unit) j.judged in
      light (weight (unit_typing bytes now (view_unit unit)) without f) (sym (measured_of (unit_typing bytes now (view_unit unit)) without (view_unit unit) f j.is) ∙ s.measured)

  -- it is searched
  pub searched_function : (t : Tables) → AreJudgedTables (unit_typing bytes now (view_unit unit)) without f t → searched.IsSearched t f
  searched_function t a =
      let back : (P : Typing → Kinds → Type 0) → P (unit_typing bytes now (view_unit unit)) without → P (typing_in t.places.types) t.places.without
      = λ P h. subst (λ (x : Typing). P x t.places.without) (sym a.typing) (subst (λ (w : Kinds). P (unit_typing bytes now (view_unit unit)) w) (sym a.kinds) h) in
      typed_functions_are_searched t f (record {
        typed = back (λ x w. IsTypedTree x w f) typed_function.typed;
        kinded = back (λ x w. KindedFunction (setting_of x w f) f) typed_function.kinded;
        bits = back (λ x w. EachVisit (VisitHasBits x) (function_visits x f)) typed_function.bits;
        tables = a.tables;
        light = back (λ x w. weight x w f ≤ most_weight) light_function;
      })

  -- a place in the list of its candidates is a number of 32 bits
  pub few_candidates_there : length (candidates (unit_typing bytes now (view_unit unit)) f) < 2 ^ 32
  few_candidates_there =
      let nodes = (small bytes without now (view_unit unit) j.judged).nodes in
      let own : unit_nodes (s.defines j.is.0 f) ≤ 20000 = subst (λ (u : UnitTree). unit_nodes u ≤ 20000) j.is.1 nodes in
      omega (arith, own, few_candidates (unit_typing bytes now (view_unit unit)) f j.is.0)
