-- The register parameters of a function, one parameter after the other; and lists of memory objects.
use Rattle.std.proofs.Common.{◌≡◌, ℕ, Bool, true, false, List, [], ◌∷◌, ◌++◌, map, refl, sym, ap, ◌∙◌}
use Rattle.std.specs.Prelude.{if◌then◌else◌, filter}
use Rattle.stk_tree.specs.Syntax.{DeclrTree, ParamTree, ParamTrees, FunctionTree}
use Rattle.stk_tree.specs.Syntax as s
use Rattle.stk_tree.specs.Parts.{declared_parameters}
use Rattle.stk_meaning.specs.Typings.{Typing, declarator_node}
use Rattle.stk_meaning.specs.Keys.{fits_register, parameter_declarator, parameter_declarators, parameters_of, head_parameters, head_of, register_parameters}
use Rattle.stk_function_env.specs.Listed.{is_register_parameter, parameters_registers}

pub map_append : {A B : Type 0} (f : A → B) (xs ys : List A) → map f (xs ++ ys) ≡ map f xs ++ map f ys
map_append f [] ys = refl
map_append f (x ∷ xs) ys = ap (λ zs. f x ∷ zs) (map_append f xs ys)

by_first : (b : Bool) (d : DeclrTree) (ds : List DeclrTree) → (if b then declarator_node d ∷ [] else []) ++ map declarator_node ds ≡ map declarator_node (if b then d ∷ ds else ds)
by_first true d ds = refl
by_first false d ds = refl

registers_listed : (ty : Typing) (ps : ParamTrees) → parameters_registers ty ps ≡ map declarator_node (filter (λ d. fits_register ty (declarator_node d)) (parameter_declarators ps))
registers_listed ty s.no_parameters = refl
registers_listed ty (s.then_parameter p ps) =
    ap (λ (ks : List ℕ). (if is_register_parameter ty p then declarator_node (parameter_declarator p) ∷ [] else []) ++ ks) (registers_listed ty ps)
    ∙ by_first (is_register_parameter ty p) (parameter_declarator p) (filter (λ d. fits_register ty (declarator_node d)) (parameter_declarators ps))

tail-parameters : (d : DeclrTree) → head_parameters d ≡ parameter_declarators (declared_parameters d)
tail-parameters (s.declarator n count at (s.arrays sizes) init) = refl
tail-parameters (s.declarator n count at s.unspecified init) = refl
tail-parameters (s.declarator n count at s.void_parameters init) = refl
tail-parameters (s.declarator n count at (s.with_parameters ps more) init) = refl

function-parameters : (f : FunctionTree) → parameters_of f ≡ parameter_declarators (declared_parameters (head_of f))
function-parameters (s.function word specifiers d body) = tail-parameters d

-- those among a function's parameters are its register parameters
pub registers_are : (ty : Typing) (f : FunctionTree) (ps : ParamTrees) → ps ≡ declared_parameters (head_of f) → parameters_registers ty ps ≡ map declarator_node (register_parameters ty f)
registers_are ty f ps e =
    registers_listed ty ps
    ∙ ap (λ (qs : ParamTrees). map declarator_node (filter (λ d. fits_register ty (declarator_node d)) (parameter_declarators qs))) e
    ∙ ap (λ (ds : List DeclrTree). map declarator_node (filter (λ d. fits_register ty (declarator_node d)) ds)) (sym (function-parameters f))
