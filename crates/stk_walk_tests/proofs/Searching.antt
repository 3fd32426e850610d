-- Functions that typing accepts and that aren't too heavy are searched.
use Rattle.std.proofs.Common.{◌≡◌, ◌≤◌, sym, subst}
use Rattle.stk_tree.specs.Syntax.{FunctionTree}
use Rattle.stk_meaning.specs.Keys.{body_of}
use Rattle.stk_meaning.specs.Weights.{weight, most_weight}
use Rattle.stk_function_types.specs.Nodes.{typing_in}
use Rattle.stk_function_env.specs.Settings.{FunctionPlaces, setting_in}
use Rattle.stk_eval_expr.specs.Loops.{EachLoop}
use Rattle.stk_path_runs.specs.Rows.{Tables, Knows}
use Rattle.stk_weights.specs.Units.{IsSettingOfFunction}
use Rattle.stk_goals.specs.Searched.{IsSearched}
use Rattle.stk_goals.proofs.Searched.{typed_functions_are_searched}
use Rattle.stk_units.specs.Known.{IsTypedFunction}
use Rattle.stk_units.proofs.Measures.{tables_of}

pub searched : (f : FunctionTree) (t : Tables) (p : FunctionPlaces) → t.places ≡ p → IsSettingOfFunction f p → EachLoop (Knows (setting_in p) p.keys t.rows) (body_of f)
    → IsTypedFunction (typing_in p.types) p.without f → weight (typing_in p.types) p.without f ≤ most_weight → IsSearched t f
searched f t p e of loops typed light =
    let here : IsTypedFunction (typing_in t.places.types) t.places.without f = subst (λ (q : FunctionPlaces). IsTypedFunction (typing_in q.types) q.without f) (sym e) typed in
    typed_functions_are_searched t f
    (record {
      typed = here.typed;
      kinded = here.kinded;
      bits = here.bits;
      tables = tables_of f t p e of loops;
      light = subst (λ (q : FunctionPlaces). weight (typing_in q.types) q.without f ≤ most_weight) (sym e) light;
    })
