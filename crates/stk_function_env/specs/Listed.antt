-- Registers, keys and kept objects, one parameter or key after the other.
use Rattle.std.specs.Prelude.{ℕ, Bool, true, false, ◌&&◌, if◌then◌else◌, List, [], ◌∷◌, ◌++◌, Option}
use Rattle.std.specs.Option.{is_some}
use Rattle.stk_base.specs.declared.span.Span.{Span}
use Rattle.stk_tree.specs.Syntax.{ParamTree, ParamTrees}
use Rattle.stk_tree.specs.Syntax as s
use Rattle.stk_type_rules.specs.Types.{is_scalar}
use Rattle.stk_meaning.specs.Typings.{Typing, declarator_node}
use Rattle.stk_meaning.specs.Keys.{Key, parameter_key, address_key, unset_key, load_key, call_key, loop_key, KeyInfo, fits_register, parameter_declarator, parameter_info, memory_info}

-- whether a parameter is a register
abbrev pub is_register_parameter : Typing → ParamTree → Bool
is_register_parameter ty p = fits_register ty (declarator_node (parameter_declarator p))

-- the declarators of the parameters that are registers
abbrev pub parameters_registers : Typing → ParamTrees → List ℕ
parameters_registers ty s.no_parameters = []
parameters_registers ty (s.then_parameter p ps) = (if is_register_parameter ty p then declarator_node (parameter_declarator p) ∷ [] else []) ++ parameters_registers ty ps

-- their keys
abbrev pub register_parameter_keys : Typing → ParamTrees → List KeyInfo
register_parameter_keys ty s.no_parameters = []
register_parameter_keys ty (s.then_parameter p ps) = (if is_register_parameter ty p then parameter_info ty (parameter_declarator p) ∷ [] else []) ++ register_parameter_keys ty ps

-- the keys of the parameters in memory
abbrev pub memory_parameter_keys : Typing → ParamTrees → List KeyInfo
memory_parameter_keys ty s.no_parameters = []
memory_parameter_keys ty (s.then_parameter p ps) = (if is_register_parameter ty p then [] else memory_info ty (parameter_declarator p) ∷ []) ++ memory_parameter_keys ty ps

-- the object whose address a key is, where it has a name and a scalar type
abbrev pub key_kept : Typing → Option Span → Key → List ℕ
key_kept ty at (parameter_key k) = []
key_kept ty at (address_key k) = if is_some at && is_scalar (ty.type_at k) then k ∷ [] else []
key_kept ty at (unset_key k) = []
key_kept ty at (load_key k) = []
key_kept ty at (call_key k) = []
key_kept ty at (loop_key k j) = []

-- the objects with a name and a scalar type among keys
abbrev pub keys_kept : Typing → List KeyInfo → List ℕ
keys_kept ty [] = []
keys_kept ty (x ∷ xs) = key_kept ty x.name x.key ++ keys_kept ty xs
