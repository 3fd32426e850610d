-- The registers of parameters, one parameter after the other.
use Rattle.std.specs.Prelude.{ℕ, if◌then◌else◌, List, ℤ, set}
use Rattle.stk_tree.specs.Syntax.{ParamTrees}
use Rattle.stk_tree.specs.Syntax as s
use Rattle.stk_meaning.specs.Typings.{Typing, declarator_node}
use Rattle.stk_meaning.specs.Keys.{parameter_declarator}
use Rattle.stk_function_env.specs.Listed.{is_register_parameter}

-- registers with the numbers of the parameters that are registers
abbrev pub parameters_set : Typing → (ℕ → ℤ) → ParamTrees → List ℤ → List ℤ
parameters_set ty numbers s.no_parameters r = r
parameters_set ty numbers (s.then_parameter p ps) r =
    parameters_set ty numbers ps (if is_register_parameter ty p then set r (declarator_node (parameter_declarator p)) (numbers (declarator_node (parameter_declarator p))) else r)
