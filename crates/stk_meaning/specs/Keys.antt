-- The input keys of a function: what a path run takes from an input map, in order; and its registers and kept objects.
use Rattle.std.specs.Prelude.{ℕ, ◌==◌, Bool, false, not, ◌&&◌, ◌||◌, if◌then◌else◌, List, [], ◌∷◌, ◌++◌, map, take, Option, Some, None, filter, sum_by}
use Rattle.std.specs.Option.{is_some}
use Rattle.stk_base.specs.declared.span.Span.{Span}
use Rattle.stk_base.specs.Text.{text_of}
use Rattle.stk_ctype.specs.declared.kind.IntKind.{IntKind}
use Rattle.stk_ctype.specs.declared.kind.IntKind.TheVariants as kind
use Rattle.stk_ctype.specs.Types.{TypeTree}
use Rattle.stk_tree.specs.declared.expression.UnaryOp.{UnaryOp}
use Rattle.stk_tree.specs.declared.expression.UnaryOp.TheVariants as unary
use Rattle.stk_tree.specs.Syntax.{DeclrTree, TailTree, ParamTree, ParamTrees, ExprFormTree, MaybeInitTree, StmtTree, StmtFormTree, FunctionTree}
use Rattle.stk_tree.specs.Syntax as s
use Rattle.stk_numbers.specs.declared.conditions.Kinds.{Kinds}
use Rattle.stk_numbers.specs.Kinds.{width_of}
use Rattle.stk_type_rules.specs.Types.{is_scalar, is_struct, is_void}
use Rattle.stk_meaning.specs.Typings.{Typing, declarator_node, number_kind, object_size}
use Rattle.stk_meaning.specs.Libraries.{Library, called_library, called_signature, result_in}
use Rattle.stk_meaning.specs.Places.{Mention, mentioned_in, Setting, Target, in_register, in_kept, in_object, unnamed, target_at, form_target}
use Rattle.stk_meaning.specs.Visits.{Use, read, accessed, taken, Role, Visit, at_expression, at_declarator, at_statement, at_section, Visits, both_visits, collected, head_visits, statement_visits}
use Rattle.stk_meaning.specs.Changes.{assigned_in}

-- what a number of a path run is asked for: a register parameter, the address of an object, a register without
-- initialiser, a load, the result of a call, each by a node; a register that a loop sets first, by the loop and its
-- declarator
pub data Key : Type 0 where
  parameter_key : ℕ → Key
  address_key : ℕ → Key
  unset_key : ℕ → Key
  load_key : ℕ → Key
  call_key : ℕ → Key
  loop_key : ℕ → ℕ → Key

-- a key with the kind of its numbers, the size of the object whose address it is, and the name of the object or
-- register
pub record KeyInfo : Type 0 where
  pub key : Key
  pub kind : IntKind
  pub size : ℕ
  pub name : Option Span

-- the parameters of a function definition
abbrev pub parameter_declarator : ParamTree → DeclrTree
parameter_declarator (s.parameter n specifiers d) = d

abbrev pub parameter_declarators : ParamTrees → List DeclrTree
parameter_declarators s.no_parameters = []
parameter_declarators (s.then_parameter p ps) = parameter_declarator p ∷ parameter_declarators ps

abbrev pub tail_parameters : TailTree → List DeclrTree
tail_parameters (s.arrays sizes) = []
tail_parameters s.unspecified = []
tail_parameters s.void_parameters = []
tail_parameters (s.with_parameters ps more) = parameter_declarators ps

abbrev pub head_parameters : DeclrTree → List DeclrTree
head_parameters (s.declarator n count at tail init) = tail_parameters tail

abbrev pub parameters_of : FunctionTree → List DeclrTree
parameters_of (s.function word specifiers d body) = head_parameters d

-- the declarator and the body of a function, and the nodes of both
abbrev pub head_of : FunctionTree → DeclrTree
head_of (s.function word specifiers d body) = d

abbrev pub body_of : FunctionTree → StmtTree
body_of (s.function word specifiers d body) = body

abbrev pub function_visits : Typing → FunctionTree → Visits
function_visits ty f = both_visits (head_visits ty (head_of f)) (statement_visits ty false (body_of f))

-- ---- registers

-- whether the object of a declarator is a register, where it is automatic: a scalar whose name is no operand of `&`
abbrev pub fits_register : Typing → ℕ → Bool
fits_register ty k = is_scalar (ty.type_at k) && not (ty.is_taken k)

abbrev pub visit_registers : Typing → Visit → List ℕ
visit_registers ty (at_expression k role f) = []
visit_registers ty (at_declarator k static at init) = if not static && fits_register ty k then k ∷ [] else []
visit_registers ty (at_statement k arm f) = []
visit_registers ty (at_section k ls) = []

-- the registers of a function, parameters first
abbrev pub registers_of : Typing → FunctionTree → List ℕ
registers_of ty f = filter (λ k. fits_register ty k) (map declarator_node (parameters_of f)) ++ collected (visit_registers ty) (function_visits ty f)

-- ---- objects of file scope

-- a name of an object of file scope: it means no parameter or local object, and no enumerator
abbrev pub names_outside : Typing → ℕ → Bool
names_outside ty k = not (is_some (ty.means k) || is_some (ty.number_at k))

abbrev pub form_mentions : Typing → ℕ → ExprFormTree → List Mention
form_mentions ty k (s.name at) = if names_outside ty k then record { name = text_of ty.bytes at; node = k } ∷ [] else []
form_mentions ty k (s.number at) = []
form_mentions ty k (s.character at) = []
form_mentions ty k (s.text parts) = []
form_mentions ty k (s.paren e) = []
form_mentions ty k (s.index a b) = []
form_mentions ty k (s.call e es) = []
form_mentions ty k (s.dot e at) = []
form_mentions ty k (s.arrow e at) = []
form_mentions ty k (s.step op e) = []
form_mentions ty k (s.unary op e) = []
form_mentions ty k (s.size_expression e) = []
form_mentions ty k (s.size_name t) = []
form_mentions ty k (s.cast t e) = []
form_mentions ty k (s.binary op a b) = []
form_mentions ty k (s.choice a b c) = []
form_mentions ty k (s.assign op a b) = []

abbrev pub visit_mentions : Typing → Visit → List Mention
visit_mentions ty (at_expression k role f) = form_mentions ty k f
visit_mentions ty (at_declarator k static at init) = []
visit_mentions ty (at_statement k arm f) = []
visit_mentions ty (at_section k ls) = []

-- ---- keys by node

-- whether a mention of a name is the first
abbrev pub is_node : ℕ → Option ℕ → Bool
is_node k None = false
is_node k (Some j) = k == j

-- the address of an object of a type
abbrev pub address_info : Typing → ℕ → Option Span → KeyInfo
address_info ty k at = record { key = address_key k; kind = kind.ULong; size = object_size ty (ty.type_at k); name = at }

-- a number of a type that isn't an address of its own
abbrev pub number_info : Typing → Key → TypeTree → Option Span → KeyInfo
number_info ty key t at = record { key = key; kind = number_kind t; size = 0; name = at }

-- a place whose number is read has a load, where it isn't a register; an array is never read (C11 6.3.2.1p3)
abbrev pub is_loaded : TypeTree → Use → Target → Bool
is_loaded t read (in_register i) = false
is_loaded t read (in_kept q) = is_scalar t
is_loaded t read (in_object o) = is_scalar t
is_loaded t read unnamed = is_scalar t
is_loaded t accessed target = false
is_loaded t taken target = false

abbrev pub load_keys : Setting → ℕ → Role → ExprFormTree → List KeyInfo
load_keys g k role f =
    let t = g.typing.type_at k in
    if is_loaded t role.use_of (form_target g k f) then number_info g.typing (load_key k) t None ∷ [] else []

-- a name: the address of an object of file scope, where it is mentioned first, and its load
abbrev pub mention_keys : Setting → ℕ → Span → List KeyInfo
mention_keys g k at =
    if names_outside g.typing k && is_node k (mentioned_in (text_of g.typing.bytes at) g.mentions) then address_info g.typing k (Some at) ∷ [] else []

abbrev pub name_keys : Setting → ℕ → Role → Span → List KeyInfo
name_keys g k role at = if is_some (g.typing.number_at k) then [] else mention_keys g k at ++ load_keys g k role (s.name at)

-- the result of a call that isn't one of the library
abbrev pub result_keys : Typing → ℕ → TypeTree → Option Library → List KeyInfo
result_keys ty k t (Some library) = []
result_keys ty k t None = if is_void t then [] else number_info ty (call_key k) t None ∷ []

abbrev pub unary_keys : Setting → ℕ → Role → UnaryOp → ExprFormTree → List KeyInfo
unary_keys g k role unary.Address f = []
unary_keys g k role unary.Deref f = load_keys g k role f
unary_keys g k role unary.Plus f = []
unary_keys g k role unary.Minus f = []
unary_keys g k role unary.Flip f = []
unary_keys g k role unary.Not f = []

abbrev pub form_keys : Setting → ℕ → Role → ExprFormTree → List KeyInfo
form_keys g k role (s.name at) = name_keys g k role at
form_keys g k role (s.number at) = []
form_keys g k role (s.character at) = []
form_keys g k role (s.text parts) = address_info g.typing k None ∷ []
form_keys g k role (s.paren e) = []
form_keys g k role (s.index a b) = load_keys g k role (s.index a b)
form_keys g k role (s.call e es) = result_keys g.typing k (result_in (called_signature g.typing e)) (called_library g.typing e)
form_keys g k role (s.dot e at) = load_keys g k role (s.dot e at)
form_keys g k role (s.arrow e at) = load_keys g k role (s.arrow e at)
form_keys g k role (s.step op e) = []
form_keys g k role (s.unary op e) = unary_keys g k role op (s.unary op e)
form_keys g k role (s.size_expression e) = []
form_keys g k role (s.size_name t) = []
form_keys g k role (s.cast t e) = []
form_keys g k role (s.binary op a b) = []
form_keys g k role (s.choice a b c) = []
form_keys g k role (s.assign op a b) = []

-- a declarator: a register without initialiser, or the address of an object
abbrev pub unset_keys : Typing → ℕ → Option Span → MaybeInitTree → List KeyInfo
unset_keys ty k at s.no_initialiser = number_info ty (unset_key k) (ty.type_at k) at ∷ []
unset_keys ty k at (s.some_initialiser x) = []

abbrev pub declarator_keys : Setting → ℕ → Option Span → MaybeInitTree → Target → List KeyInfo
declarator_keys g k at init (in_register i) = unset_keys g.typing k at init
declarator_keys g k at init (in_kept q) = address_info g.typing k at ∷ []
declarator_keys g k at init (in_object o) = address_info g.typing k at ∷ []
declarator_keys g k at init unnamed = address_info g.typing k at ∷ []

-- the registers that a loop sets first
abbrev pub loop_keys : Setting → ℕ → List ℕ → List KeyInfo
loop_keys g k js = map (λ j. number_info g.typing (loop_key k j) (g.typing.type_at j) None) js

abbrev pub visit_keys : Setting → Visit → List KeyInfo
visit_keys g (at_expression k role f) = form_keys g k role f
visit_keys g (at_declarator k static at init) = declarator_keys g k at init (target_at g k)
visit_keys g (at_statement k arm f) = loop_keys g k (assigned_in g f)
visit_keys g (at_section k ls) = []

-- ---- the keys of a function

-- register parameters, and parameters in memory
abbrev pub parameter_info : Typing → DeclrTree → KeyInfo
parameter_info ty (s.declarator n count at tail init) = number_info ty (parameter_key n.number) (ty.type_at n.number) at

abbrev pub memory_info : Typing → DeclrTree → KeyInfo
memory_info ty (s.declarator n count at tail init) = address_info ty n.number at

abbrev pub register_parameters : Typing → FunctionTree → List DeclrTree
register_parameters ty f = filter (λ d. fits_register ty (declarator_node d)) (parameters_of f)

abbrev pub memory_parameters : Typing → FunctionTree → List DeclrTree
memory_parameters ty f = filter (λ d. not (fits_register ty (declarator_node d))) (parameters_of f)

-- register parameters come first, in order; the other keys follow by their nodes, at one node an address before a load
abbrev pub keys_in : Setting → FunctionTree → List KeyInfo
keys_in g f =
    map (parameter_info g.typing) (register_parameters g.typing f)
    ++ (map (memory_info g.typing) (memory_parameters g.typing f) ++ collected (visit_keys g) (function_visits g.typing f))

-- a memory object: the node of its address, its bytes, whether it has a name and a scalar or struct type, and whether
-- that type is a scalar one
pub record Object : Type 0 where
  pub node : ℕ
  pub size : ℕ
  pub is_plain : Bool
  pub is_number : Bool

abbrev pub object_of : Typing → Option Span → ℕ → ℕ → Object
object_of ty at k size =
    let t = ty.type_at k in
    record { node = k; size = size; is_plain = is_some at && (is_scalar t || is_struct t); is_number = is_some at && is_scalar t }

-- the memory objects, in the order of their keys
abbrev pub key_objects : Typing → Option Span → ℕ → Key → List Object
key_objects ty at size (parameter_key k) = []
key_objects ty at size (address_key k) = object_of ty at k size ∷ []
key_objects ty at size (unset_key k) = []
key_objects ty at size (load_key k) = []
key_objects ty at size (call_key k) = []
key_objects ty at size (loop_key k j) = []

abbrev pub objects_in : Typing → List KeyInfo → List Object
objects_in ty [] = []
objects_in ty (x ∷ xs) = key_objects ty x.name x.size x.key ++ objects_in ty xs

-- the setting of a function before its kept objects are known: its keys don't depend on them
abbrev pub first_setting : Typing → Kinds → FunctionTree → Setting
first_setting ty without f = record {
  typing = ty;
  without = without;
  registers = registers_of ty f;
  mentions = collected (visit_mentions ty) (function_visits ty f);
  kept = [];
}

-- the keys of a function, and its memory objects
abbrev pub keys_of : Typing → Kinds → FunctionTree → List KeyInfo
keys_of ty without f = keys_in (first_setting ty without f) f

abbrev pub objects_of : Typing → Kinds → FunctionTree → List Object
objects_of ty without f = objects_in ty (keys_of ty without f)

-- the kept objects: the first 32 that have a name and a scalar type
abbrev pub kept_of : Typing → Kinds → FunctionTree → List ℕ
kept_of ty without f = take 32 (map (λ o. o.node) (filter (λ o. o.is_number) (objects_of ty without f)))

-- what the runs of a function rest on
abbrev pub setting_of : Typing → Kinds → FunctionTree → Setting
setting_of ty without f =
    let g = first_setting ty without f in
    record { typing = ty; without = without; registers = g.registers; mentions = g.mentions; kept = kept_of ty without f }

-- how many bits an input map has
abbrev pub input_bits : List KeyInfo → ℕ
input_bits keys = sum_by (λ x. width_of x.kind) keys
