-- What follows the name in a declarator: array parts, or the parameters of a function (C11 6.7.6).
use Rattle.std.specs.Prelude.{ℕ, Bool, true, false, ◌&&◌, List, [], ◌∷◌, Option, Some, None, pos}
use Rattle.stk_ctype.specs.Types.{TypeTree}
use Rattle.stk_ctype.specs.Structs.{Structs}
use Rattle.stk_tree.specs.Syntax.{TailTree, DimensionTrees, ParamTrees}
use Rattle.stk_tree.specs.Syntax as s
use Rattle.stk_type_rules.specs.declared.facts.Constancy.TheVariants.{Number}
use Rattle.stk_type_rules.specs.Facts.{Ruled}
use Rattle.stk_type_rules.specs.Outcome.{Outcome, Good, and_then}
use Rattle.stk_type_rules.specs.Types.{is_scalar}
use Rattle.stk_typing.specs.declared.arrays.Size.{Size}
use Rattle.stk_typing.specs.declared.arrays.Size.TheVariants.{Open, Sized}
use Rattle.stk_typing.specs.Scope.{Scope, unevaluated}
use Rattle.stk_typing.specs.Arrays.{declared_type}
use Rattle.stk_typing.specs.Typing.{dimensions_typed}
use Rattle.stk_declarators.specs.Parameters.{Parameter, parameters_typed}
use Rattle.stk_declarators.specs.Functions.{function_rule}

-- the sizes of array parts; or the parameters of a function, and whether it may take more arguments
pub data TailShape : Type 0 where
  of_arrays : List Size → TailShape
  of_function : List Parameter → Bool → TailShape

abbrev pub arrays_typed : Scope → DimensionTrees → Outcome TailShape
arrays_typed scope ds = and_then (dimensions_typed (unevaluated scope) ds) (λ sizes. Good (of_arrays sizes) [])

abbrev pub function_typed : Scope → Bool → ParamTrees → Bool → Outcome TailShape
function_typed scope defines ps more = and_then (parameters_typed scope defines ps) (λ ls. Good (of_function ls more) [])

-- what follows the name; `( )` takes any arguments
abbrev pub tail_typed : Scope → Bool → TailTree → Outcome TailShape
tail_typed scope defines (s.arrays ds) = arrays_typed scope ds
tail_typed scope defines s.unspecified = Good (of_function [] true) []
tail_typed scope defines s.void_parameters = Good (of_function [] false) []
tail_typed scope defines (s.with_parameters ps more) = function_typed scope defines ps more

-- an outermost array part without a size has the size that an initialiser counts
abbrev pub counted_sizes : Option ℕ → List Size → List Size
counted_sizes (Some n) (Open ∷ sizes) = Sized (Number (pos n)) ∷ sizes
counted_sizes (Some n) (Sized c ∷ sizes) = Sized c ∷ sizes
counted_sizes (Some n) [] = []
counted_sizes None sizes = sizes

-- whether the elements of an array with these parts are scalars
abbrev pub are_scalars : List Size → TypeTree → Bool
are_scalars [] t = false
are_scalars (size ∷ []) t = is_scalar t
are_scalars (size ∷ next ∷ sizes) t = false

-- the type that a declarator declares, whose initialiser counts this
abbrev pub tail_type : Structs → Bool → Option ℕ → TypeTree → TailShape → Ruled
tail_type structs defines count t (of_arrays sizes) = declared_type structs (counted_sizes count sizes) t
tail_type structs defines count t (of_function ps more) = function_rule structs defines t ps more
