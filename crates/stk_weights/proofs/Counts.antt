-- A function has few registers and few memory objects beside its nodes.
use Rattle.std.proofs.Common.{ℕ, ◌≡◌, ◌+◌, ◌*◌, ◌≤◌, Bool, true, false, not, ◌&&◌, List, [], ◌∷◌, ◌++◌, map, length, Option, Some, None, refl, arith, length-append}
use Rattle.std.specs.Prelude.{if◌then◌else◌, filter}
use Rattle.std.specs.Option.{is_some}
use Rattle.stk_base.specs.declared.span.Span.{Span}
use Rattle.stk_base.specs.Text.{text_of}
use Rattle.stk_ctype.specs.Types.{TypeTree}
use Rattle.stk_type_rules.specs.Types.{is_void}
use Rattle.stk_tree.specs.declared.expression.UnaryOp.{UnaryOp}
use Rattle.stk_tree.specs.declared.expression.UnaryOp.TheVariants as unary
use Rattle.stk_tree.specs.Syntax.{ExprFormTree, TailTree, ParamTree, ParamTrees, DeclrTree, MaybeInitTree, FunctionTree}
use Rattle.stk_tree.specs.Syntax as s
use Rattle.stk_tree.specs.Nodes.{declarator_nodes, tail_nodes, parameters_nodes, function_nodes}
use Rattle.stk_numbers.specs.declared.conditions.Kinds.{Kinds}
use Rattle.stk_meaning.specs.Typings.{Typing, declarator_node}
use Rattle.stk_meaning.specs.Libraries.{Library}
use Rattle.stk_meaning.specs.Places.{Setting, mentioned_in, Target, in_register, in_kept, in_object, unnamed, target_at}
use Rattle.stk_meaning.specs.Visits.{Role, Visit, at_expression, at_declarator, at_statement, at_section, Visits, no_visit, one_visit, both_visits, scope, unevaluated, collected}
use Rattle.stk_meaning.specs.Changes.{assigned_in}
use Rattle.stk_meaning.specs.Keys.{KeyInfo, parameter_declarators, tail_parameters, head_parameters, parameters_of, function_visits, fits_register, visit_registers, registers_of, names_outside, is_node, address_info, load_keys, mention_keys, name_keys, result_keys, unary_keys, form_keys, declarator_keys, loop_keys, visit_keys, parameter_info, memory_info, register_parameters, memory_parameters, key_objects, objects_in, first_setting, objects_of}
use Rattle.stk_weights.specs.Loads.{visit_load, load}
use Rattle.stk_weights.proofs.Loads.{function_few}

if-few : {A : Type 0} (b : Bool) (x : A) (xs : List A) (n : ℕ) → length xs ≤ n → length (if b then x ∷ xs else xs) ≤ n + 1
if-few true x xs n h = omega (arith, h)
if-few false x xs n h = omega (arith, h)

pub length-filter : {A : Type 0} (p : A → Bool) (xs : List A) → length (filter p xs) ≤ length xs
length-filter p [] = omega arith
length-filter p (x ∷ xs) = omega (arith, if-few (p x) x (filter p xs) (length xs) (length-filter p xs))

one_if-few : {A : Type 0} (b : Bool) (x : A) → length (if b then x ∷ [] else []) ≤ 1
one_if-few true x = omega arith
one_if-few false x = omega arith

load-positive : (x : Visit) → 1 ≤ visit_load x
load-positive (at_expression k role f) = omega arith
load-positive (at_declarator k static at init) = omega arith
load-positive (at_statement k arm f) = omega arith
load-positive (at_section k ls) = omega arith

collected-few : {A : Type 0} (f : Visit → List A) → ((x : Visit) → length (f x) ≤ 1) → (v : Visits) → length (collected f v) ≤ load v
collected-few f h no_visit = omega arith
collected-few f h (one_visit x) = omega (arith, h x, load-positive x)
collected-few f h (both_visits a b) = simp length-append (omega (arith, collected-few f h a, collected-few f h b))
collected-few f h (scope ks a) = collected-few f h a
collected-few f h (unevaluated a) = omega arith

-- ---- parameters
parameters-few : (ps : ParamTrees) → length (parameter_declarators ps) ≤ parameters_nodes ps
parameters-few s.no_parameters = omega arith
parameters-few (s.then_parameter (s.parameter n b d) ps) = omega (arith, parameters-few ps)

tail-few : (t : TailTree) → length (tail_parameters t) ≤ tail_nodes t
tail-few (s.arrays ds) = omega arith
tail-few s.unspecified = omega arith
tail-few s.void_parameters = omega arith
tail-few (s.with_parameters ps more) = parameters-few ps

head-few : (d : DeclrTree) → length (head_parameters d) ≤ declarator_nodes d
head-few (s.declarator n count at tail init) = omega (arith, tail-few tail)

function-few : (f : FunctionTree) → length (parameters_of f) ≤ function_nodes f
function-few (s.function word b d body) = omega (arith, head-few d)

-- ---- registers
visit-registers : (ty : Typing) (x : Visit) → length (visit_registers ty x) ≤ 1
visit-registers ty (at_expression k role f) = omega arith
visit-registers ty (at_declarator k static at init) = one_if-few (not static && fits_register ty k) k
visit-registers ty (at_statement k arm f) = omega arith
visit-registers ty (at_section k ls) = omega arith

mapped : {A B : Type 0} (f : A → B) (xs : List A) → length (map f xs) ≡ length xs
mapped f [] = refl
mapped f (x ∷ xs) = omega (arith, mapped f xs)

pub registers_few : (ty : Typing) (f : FunctionTree) → length (registers_of ty f) ≤ 3 * function_nodes f
registers_few ty f =
    let params = map declarator_node (parameters_of f) in
    omega (arith, length-append (filter (λ k. fits_register ty k) params) (collected (visit_registers ty) (function_visits ty f)), length-filter (λ k. fits_register ty k) params, mapped declarator_node (parameters_of f), function-few f, collected-few (visit_registers ty) (visit-registers ty) (function_visits ty f), function_few ty f)

-- ---- objects
objects-append : (ty : Typing) (a b : List KeyInfo) → length (objects_in ty (a ++ b)) ≡ length (objects_in ty a) + length (objects_in ty b)
objects-append ty [] b = omega arith
objects-append ty (x ∷ a) b = simp length-append (omega (arith, objects-append ty a b))

no_objects : (ty : Typing) (b : Bool) (x : KeyInfo) → length (key_objects ty x.name x.size x.key) ≡ 0 → length (objects_in ty (if b then x ∷ [] else [])) ≡ 0
no_objects ty true x h = simp length-append (omega (arith, h))
no_objects ty false x h = refl

few_objects : (ty : Typing) (b : Bool) (x : KeyInfo) → length (key_objects ty x.name x.size x.key) ≤ 1 → length (objects_in ty (if b then x ∷ [] else [])) ≤ 1
few_objects ty true x h = simp length-append (omega (arith, h))
few_objects ty false x h = omega arith

load-objects : (ty : Typing) (g : Setting) (k : ℕ) (role : Role) (f : ExprFormTree) → length (objects_in ty (load_keys g k role f)) ≡ 0
load-objects ty g k role f = no_objects ty _ _ refl

mention-objects : (ty : Typing) (g : Setting) (k : ℕ) (at : Span) → length (objects_in ty (mention_keys g k at)) ≤ 1
mention-objects ty g k at =
    few_objects ty (names_outside g.typing k && is_node k (mentioned_in (text_of g.typing.bytes at) g.mentions)) (address_info g.typing k (Some at)) (omega arith)

by_constant : (ty : Typing) (b : Bool) (xs ys : List KeyInfo) → length (objects_in ty xs) ≤ 1 → length (objects_in ty ys) ≡ 0 → length (objects_in ty (if b then [] else xs ++ ys)) ≤ 1
by_constant ty true xs ys h e = omega arith
by_constant ty false xs ys h e = omega (arith, objects-append ty xs ys, h, e)

name-objects : (ty : Typing) (g : Setting) (k : ℕ) (role : Role) (at : Span) → length (objects_in ty (name_keys g k role at)) ≤ 1
name-objects ty g k role at = by_constant ty (is_some (g.typing.number_at k)) (mention_keys g k at) (load_keys g k role (s.name at)) (mention-objects ty g k at) (load-objects ty g k role (s.name at))

by_void : (ty : Typing) (b : Bool) (x : KeyInfo) → length (key_objects ty x.name x.size x.key) ≡ 0 → length (objects_in ty (if b then [] else x ∷ [])) ≤ 1
by_void ty true x h = omega arith
by_void ty false x h = simp length-append (omega (arith, h))

result-objects : (ty u : Typing) (k : ℕ) (t : TypeTree) (library : Option Library) → length (objects_in ty (result_keys u k t library)) ≤ 1
result-objects ty u k t (Some library) = omega arith
result-objects ty u k t None = by_void ty (is_void t) _ refl

unary-objects : (ty : Typing) (g : Setting) (k : ℕ) (role : Role) (op : UnaryOp) (f : ExprFormTree) → length (objects_in ty (unary_keys g k role op f)) ≤ 1
unary-objects ty g k role unary.Address f = omega arith
unary-objects ty g k role unary.Deref f = omega (arith, load-objects ty g k role f)
unary-objects ty g k role unary.Plus f = omega arith
unary-objects ty g k role unary.Minus f = omega arith
unary-objects ty g k role unary.Flip f = omega arith
unary-objects ty g k role unary.Not f = omega arith

form-objects : (ty : Typing) (g : Setting) (k : ℕ) (role : Role) (f : ExprFormTree) → length (objects_in ty (form_keys g k role f)) ≤ 1
form-objects ty g k role (s.name at) = name-objects ty g k role at
form-objects ty g k role (s.number at) = omega arith
form-objects ty g k role (s.character at) = omega arith
form-objects ty g k role (s.text parts) = omega arith
form-objects ty g k role (s.paren e) = omega arith
form-objects ty g k role (s.index a b) = omega (arith, load-objects ty g k role (s.index a b))
form-objects ty g k role (s.call e es) = result-objects ty g.typing k _ _
form-objects ty g k role (s.dot e at) = omega (arith, load-objects ty g k role (s.dot e at))
form-objects ty g k role (s.arrow e at) = omega (arith, load-objects ty g k role (s.arrow e at))
form-objects ty g k role (s.step op e) = omega arith
form-objects ty g k role (s.unary op e) = unary-objects ty g k role op (s.unary op e)
form-objects ty g k role (s.size_expression e) = omega arith
form-objects ty g k role (s.size_name t) = omega arith
form-objects ty g k role (s.cast t e) = omega arith
form-objects ty g k role (s.binary op a b) = omega arith
form-objects ty g k role (s.choice a b c) = omega arith
form-objects ty g k role (s.assign op a b) = omega arith

declarator-objects : (ty : Typing) (g : Setting) (k : ℕ) (at : Option Span) (init : MaybeInitTree) (place : Target) → length (objects_in ty (declarator_keys g k at init place)) ≤ 1
declarator-objects ty g k at s.no_initialiser (in_register i) = omega arith
declarator-objects ty g k at (s.some_initialiser x) (in_register i) = omega arith
declarator-objects ty g k at init (in_kept q) = omega arith
declarator-objects ty g k at init (in_object o) = omega arith
declarator-objects ty g k at init unnamed = omega arith

loop-objects : (ty : Typing) (g : Setting) (k : ℕ) (js : List ℕ) → length (objects_in ty (loop_keys g k js)) ≡ 0
loop-objects ty g k [] = refl
loop-objects ty g k (j ∷ js) = loop-objects ty g k js

visit-objects : (ty : Typing) (g : Setting) (x : Visit) → length (objects_in ty (visit_keys g x)) ≤ 1
visit-objects ty g (at_expression k role f) = form-objects ty g k role f
visit-objects ty g (at_declarator k static at init) = declarator-objects ty g k at init (target_at g k)
visit-objects ty g (at_statement k arm f) = omega (arith, loop-objects ty g k (assigned_in g f))
visit-objects ty g (at_section k ls) = omega arith

keys-objects : (ty : Typing) (g : Setting) (v : Visits) → length (objects_in ty (collected (visit_keys g) v)) ≤ load v
keys-objects ty g no_visit = omega arith
keys-objects ty g (one_visit x) = omega (arith, visit-objects ty g x, load-positive x)
keys-objects ty g (both_visits a b) = omega (arith, objects-append ty (collected (visit_keys g) a) (collected (visit_keys g) b), keys-objects ty g a, keys-objects ty g b)
keys-objects ty g (scope ks a) = keys-objects ty g a
keys-objects ty g (unevaluated a) = omega arith

parameter-objects : (ty u : Typing) (ds : List DeclrTree) → length (objects_in ty (map (parameter_info u) ds)) ≡ 0
parameter-objects ty u [] = refl
parameter-objects ty u (s.declarator n count at tail init ∷ ds) = parameter-objects ty u ds

memory-objects : (ty u : Typing) (ds : List DeclrTree) → length (objects_in ty (map (memory_info u) ds)) ≡ length ds
memory-objects ty u [] = refl
memory-objects ty u (s.declarator n count at tail init ∷ ds) = omega (arith, memory-objects ty u ds)

pub objects_few : (ty : Typing) (without : Kinds) (f : FunctionTree) → length (objects_of ty without f) ≤ 3 * function_nodes f
objects_few ty without f =
    let g = first_setting ty without f in
    let a = map (parameter_info ty) (register_parameters ty f) in
    let b = map (memory_info ty) (memory_parameters ty f) in
    let c = collected (visit_keys g) (function_visits ty f) in
    omega (arith, objects-append ty a (b ++ c), objects-append ty b c, parameter-objects ty ty (register_parameters ty f), memory-objects ty ty (memory_parameters ty f), length-filter (λ d. not (fits_register ty (declarator_node d))) (parameters_of f), function-few f, keys-objects ty g (function_visits ty f), function_few ty f)
