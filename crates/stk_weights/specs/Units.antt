-- The weight of the function that a unit defines.
use Rattle.std.specs.Prelude.{ℕ, ◌≡◌}
use Rattle.stk_tree.specs.Syntax.{FunctionTree, UnitTree}
use Rattle.stk_tree.specs.Syntax as s
use Rattle.stk_tree.specs.View.{view_unit}
use Rattle.stk_numbers.specs.declared.conditions.Kinds.{Kinds}
use Rattle.stk_meaning.specs.Typings.{Typing}
use Rattle.stk_meaning.specs.Keys.{setting_of, keys_of}
use Rattle.stk_meaning.specs.Weights.{weight}
use Rattle.stk_function_types.specs.Nodes.{typing_in}
use Rattle.stk_function_env.specs.Settings.{FunctionPlaces, setting_in}

-- a unit that defines no function has none
abbrev pub unit_weight : Typing → Kinds → UnitTree → ℕ
unit_weight ty without (s.empty_unit n) = 0
unit_weight ty without (s.declares n d) = 0
unit_weight ty without (s.defines n f) = weight ty without f

-- the setting and the keys are those of a function
pub record IsSettingOfFunction (f : FunctionTree) (p : FunctionPlaces) : Type 0 where
  pub setting : setting_in p ≡ setting_of (typing_in p.types) p.without f
  pub keys : p.keys ≡ keys_of (typing_in p.types) p.without f

-- those of the function that a unit defines
abbrev pub IsSettingOf : UnitTree → FunctionPlaces → Type 0
IsSettingOf (s.empty_unit n) p = Unit {0}
IsSettingOf (s.declares n d) p = Unit {0}
IsSettingOf (s.defines n f) p = IsSettingOfFunction f p

-- those of a function's own unit
abbrev pub IsWhole : FunctionPlaces → Type 0
IsWhole p = IsSettingOf (view_unit p.types.unit) p
