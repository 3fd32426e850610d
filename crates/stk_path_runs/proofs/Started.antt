-- The registers that a path run starts from, one parameter after the other.
use Rattle.std.proofs.Common.{◌≡◌, ℕ, Bool, true, false, List, [], ◌∷◌, map, ℤ, pos, set, replicate, refl, sym, ap, ◌∙◌}
use Rattle.std.specs.Prelude.{if◌then◌else◌, filter}
use Rattle.stk_tree.specs.Syntax.{DeclrTree, ParamTree, ParamTrees, FunctionTree, StmtTree}
use Rattle.stk_tree.specs.Syntax as s
use Rattle.stk_tree.specs.Parts.{declared_parameters}
use Rattle.stk_meaning.specs.Typings.{Typing, declarator_node, statement_node}
use Rattle.stk_meaning.specs.Keys.{fits_register, parameter_declarator, parameter_declarators, parameters_of, head_parameters, head_of, body_of, register_parameters}
use Rattle.stk_meaning.specs.Paths.{with_parameters, start_registers}
use Rattle.stk_function_env.specs.Listed.{is_register_parameter}
use Rattle.stk_path_runs.specs.Starting.{parameters_set}

by_first : (b : Bool) (d : DeclrTree) (ds : List DeclrTree) (numbers : ℕ → ℤ) (r : List ℤ) → with_parameters (map declarator_node ds) numbers (if b then set r (declarator_node d) (numbers (declarator_node d)) else r) ≡ with_parameters (map declarator_node (if b then d ∷ ds else ds)) numbers r
by_first true d ds numbers r = refl
by_first false d ds numbers r = refl

pub set_one_by_one : (ty : Typing) (numbers : ℕ → ℤ) (ps : ParamTrees) (r : List ℤ) → parameters_set ty numbers ps r ≡ with_parameters (map declarator_node (filter (λ d. fits_register ty (declarator_node d)) (parameter_declarators ps))) numbers r
set_one_by_one ty numbers s.no_parameters r = refl
set_one_by_one ty numbers (s.then_parameter p ps) r =
    set_one_by_one ty numbers ps (if is_register_parameter ty p then set r (declarator_node (parameter_declarator p)) (numbers (declarator_node (parameter_declarator p))) else r)
    ∙ by_first (is_register_parameter ty p) (parameter_declarator p) (filter (λ d. fits_register ty (declarator_node d)) (parameter_declarators ps)) numbers r

tail-parameters : (d : DeclrTree) → head_parameters d ≡ parameter_declarators (declared_parameters d)
tail-parameters (s.declarator n count at (s.arrays sizes) init) = refl
tail-parameters (s.declarator n count at s.unspecified init) = refl
tail-parameters (s.declarator n count at s.void_parameters init) = refl
tail-parameters (s.declarator n count at (s.with_parameters ps more) init) = refl

function-parameters : (f : FunctionTree) → parameters_of f ≡ parameter_declarators (declared_parameters (head_of f))
function-parameters (s.function word specifiers d body) = tail-parameters d

pub started : (ty : Typing) (numbers : ℕ → ℤ) (f : FunctionTree) (ps : ParamTrees) (count : ℕ) → ps ≡ declared_parameters (head_of f) → count ≡ statement_node (body_of f) → parameters_set ty numbers ps (replicate count (pos 0)) ≡ start_registers ty f numbers
started ty numbers f ps count e n =
    set_one_by_one ty numbers ps (replicate count (pos 0))
    ∙ ap (λ (qs : ParamTrees). with_parameters (map declarator_node (filter (λ d. fits_register ty (declarator_node d)) (parameter_declarators qs))) numbers (replicate count (pos 0))) e
    ∙ ap (λ (ds : List DeclrTree). with_parameters (map declarator_node (filter (λ d. fits_register ty (declarator_node d)) ds)) numbers (replicate count (pos 0))) (sym (function-parameters f))
    ∙ ap (λ k. with_parameters (map declarator_node (register_parameters ty f)) numbers (replicate k (pos 0))) n
