-- What is asked of a function and of the tables of its path runs where it is walked.
use Rattle.std.specs.Prelude.{◌≡◌, ◌<◌, ◌^◌, length}
use Rattle.stk_tree.specs.Syntax.{FunctionTree}
use Rattle.stk_meaning.specs.Keys.{body_of, keys_of, setting_of}
use Rattle.stk_run_laws.specs.TypedTree.{IsTypedTree}
use Rattle.stk_kinded.specs.Keys.{HaveKeyKinds}
use Rattle.stk_kinded.specs.KindedStatements.{KindedFunction}
use Rattle.stk_eval_expr.specs.Loops.{EachLoop}
use Rattle.stk_function_types.specs.Nodes.{typing_in}
use Rattle.stk_function_env.specs.Settings.{setting_in}
use Rattle.stk_path_runs.specs.Rows.{Tables, Knows}

-- The tables are those of the function, and know its loops; its tree is typed and kinded, its keys have the kinds of
-- their forms, and the place of a key is a number of 32 bits. It is so of each function that typing accepts and that
-- isn't too heavy to be searched.
pub record IsWalkable (t : Tables) (f : FunctionTree) : Type 0 where
  pub setting : setting_in t.places ≡ setting_of (typing_in t.places.types) t.places.without f
  pub keys : t.places.keys ≡ keys_of (typing_in t.places.types) t.places.without f
  pub loops : EachLoop (Knows (setting_in t.places) t.places.keys t.rows) (body_of f)
  pub typed : IsTypedTree (typing_in t.places.types) t.places.without f
  pub kinded : KindedFunction (setting_of (typing_in t.places.types) t.places.without f) f
  pub key_kinds : HaveKeyKinds (setting_of (typing_in t.places.types) t.places.without f) (keys_of (typing_in t.places.types) t.places.without f)
  pub few : length (keys_of (typing_in t.places.types) t.places.without f) < 2 ^ 32
