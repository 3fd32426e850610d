-- The tables of a function's path runs.
use Rattle.std.specs.Prelude.{◌≡◌}
use Rattle.stk_tree.specs.Syntax.{FunctionTree}
use Rattle.stk_meaning.specs.Keys.{body_of, keys_of, setting_of}
use Rattle.stk_eval_expr.specs.Loops.{EachLoop}
use Rattle.stk_function_types.specs.Nodes.{typing_in}
use Rattle.stk_function_env.specs.Settings.{setting_in}
use Rattle.stk_path_runs.specs.Rows.{Tables, Knows}

-- tables are those of a function, and know its loops
pub record AreTablesOf (f : FunctionTree) (t : Tables) : Type 0 where
  pub setting : setting_in t.places ≡ setting_of (typing_in t.places.types) t.places.without f
  pub keys : t.places.keys ≡ keys_of (typing_in t.places.types) t.places.without f
  pub loops : EachLoop (Knows (setting_in t.places) t.places.keys t.rows) (body_of f)
