-- The walk of a function: what it is given of the function, and what it answers.
use Rattle.std.specs.Prelude.{◌≡◌, List, ℤ, map}
use Rattle.stk_tree.specs.Syntax.{FunctionTree}
use Rattle.stk_tree.specs.View.{view_statement}
use Rattle.stk_numbers.specs.declared.conditions.Kinds.{Kinds}
use Rattle.stk_meaning.specs.Typings.{Typing, declarator_node}
use Rattle.stk_meaning.specs.Places.{Setting}
use Rattle.stk_meaning.specs.Keys.{keys_of, kept_of, objects_of, setting_of, register_parameters, body_of}
use Rattle.stk_meaning.specs.Paths.{InputMap, number_under}
use Rattle.stk_meaning.specs.Lists.{candidates}
use Rattle.stk_run_laws.specs.Visits.{IsNumbered}
use Rattle.stk_run_laws.specs.TypedOperands.{HasScalarOperands}
use Rattle.stk_walk.specs.declared.walking.FunctionParts.{FunctionParts}
use Rattle.stk_walk.specs.Validity.{walk_object, AreDistinct}

-- What a walk is given are the parts of a function: its body, its register parameters, its kept and its memory objects,
-- and its candidates; the setting is the function's, and the numbers of a list are those of its keys in order. It is
-- one that typing accepts: its nodes are numbered, its memory objects have nodes of their own, and operands are
-- scalars.
pub record AreParts (ty : Typing) (without : Kinds) (f : FunctionTree) (g : Setting) (under : List ℤ → InputMap) (parts : FunctionParts) : Type 0 where
  pub setting : g ≡ setting_of ty without f
  pub numbers : (m : List ℤ) → under m ≡ number_under (keys_of ty without f) m
  pub body : view_statement parts.body.now ≡ body_of f
  pub parameters : parts.parameters.now ≡ map declarator_node (register_parameters ty f)
  pub kept : parts.kept.now ≡ kept_of ty without f
  pub objects : parts.objects.now ≡ map (walk_object (kept_of ty without f)) (objects_of ty without f)
  pub candidates : parts.candidates.now ≡ candidates ty f
  pub distinct : AreDistinct (objects_of ty without f)
  pub numbered : IsNumbered ty f
  pub scalars : HasScalarOperands ty f
