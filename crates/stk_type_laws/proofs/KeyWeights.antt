-- The bits of the keys of a function are at most its weight.
use Rattle.std.proofs.Common.{◌≡◌, ℕ, ◌+◌, ◌*◌, ◌≤◌, ◌<◌, Bool, true, false, ◌&&◌, List, [], ◌∷◌, ◌++◌, length, Option, Some, None, refl, ap, arith, length-append}
use Rattle.std.specs.Prelude.{if◌then◌else◌, filter, map}
use Rattle.std.specs.Option.{is_some}
use Rattle.std.proofs.lemmas.List.Sums.{sum_by-cons}
use Rattle.stk_base.specs.declared.span.Span.{Span}
use Rattle.stk_base.specs.Text.{text_of}
use Rattle.stk_ctype.specs.declared.kind.IntKind.{IntKind}
use Rattle.stk_ctype.specs.declared.kind.IntKind.TheVariants as kind
use Rattle.stk_ctype.specs.Types.{TypeTree}
use Rattle.stk_tree.specs.declared.expression.UnaryOp.{UnaryOp}
use Rattle.stk_tree.specs.declared.expression.UnaryOp.TheVariants as unary
use Rattle.stk_tree.specs.Syntax.{ExprFormTree, MaybeInitTree, StmtFormTree, TailTree, ParamTree, ParamTrees, DeclrTree, FunctionTree}
use Rattle.stk_tree.specs.Syntax as s
use Rattle.stk_tree.specs.Nodes.{tail_nodes, declarator_nodes, parameters_nodes, function_nodes}
use Rattle.stk_numbers.specs.declared.conditions.Kinds.{Kinds}
use Rattle.stk_numbers.specs.Kinds.{width_of}
use Rattle.stk_type_rules.specs.Types.{is_void}
use Rattle.stk_meaning.specs.Typings.{Typing, declarator_node}
use Rattle.stk_meaning.specs.Libraries.{Library, called_library, called_signature, result_in}
use Rattle.stk_meaning.specs.Places.{Setting, mentioned_in, Target, in_register, in_kept, in_object, unnamed, target_at, form_target}
use Rattle.stk_meaning.specs.Visits.{Role, Visit, at_expression, at_declarator, at_statement, at_section, Visits, no_visit, one_visit, both_visits, scope, unevaluated, collected}
use Rattle.stk_meaning.specs.Changes.{assigned_in}
use Rattle.stk_meaning.specs.Keys.{Key, parameter_key, address_key, unset_key, load_key, call_key, loop_key, KeyInfo, parameter_declarators, tail_parameters, head_parameters, parameters_of, function_visits, fits_register, names_outside, is_node, address_info, number_info, is_loaded, load_keys, mention_keys, name_keys, result_keys, unary_keys, form_keys, declarator_keys, loop_keys, visit_keys, parameter_info, memory_info, register_parameters, memory_parameters, key_objects, objects_in, first_setting, keys_of, kept_of, setting_of, input_bits}
use Rattle.stk_meaning.specs.Weights.{statement_weight, visit_weight, visits_weight, weight}
use Rattle.stk_run_laws.proofs.Twins.{keys_same}
use Rattle.stk_type_laws.specs.KeyWeights.{KeysAreWithinWeight}
use Rattle.stk_type_laws.proofs.Evaluated.{evaluated_count, function_fine}
use Rattle.stk_type_laws.proofs.Assigned.{assigned_few}

-- ---- bits, memory objects and other keys

pub width_least : (k : IntKind) → 1 ≤ width_of k
width_least kind.Bool = omega arith
width_least kind.Char = omega arith
width_least kind.SChar = omega arith
width_least kind.UChar = omega arith
width_least kind.Short = omega arith
width_least kind.UShort = omega arith
width_least kind.Int = omega arith
width_least kind.UInt = omega arith
width_least kind.Long = omega arith
width_least kind.ULong = omega arith
width_least kind.LLong = omega arith
width_least kind.ULLong = omega arith

pub width_most : (k : IntKind) → width_of k ≤ 64
width_most kind.Bool = omega arith
width_most kind.Char = omega arith
width_most kind.SChar = omega arith
width_most kind.UChar = omega arith
width_most kind.Short = omega arith
width_most kind.UShort = omega arith
width_most kind.Int = omega arith
width_most kind.UInt = omega arith
width_most kind.Long = omega arith
width_most kind.ULong = omega arith
width_most kind.LLong = omega arith
width_most kind.ULLong = omega arith

-- each key has a bit at least
keys_few : (keys : List KeyInfo) → length keys ≤ input_bits keys
keys_few [] = omega arith
keys_few (x ∷ xs) = omega (arith, sum_by-cons (λ (z : KeyInfo). width_of z.kind) x xs, width_least x.kind, keys_few xs)

-- keys that are no addresses
abbrev is_number_key : Key → ℕ
is_number_key (parameter_key k) = 1
is_number_key (address_key k) = 0
is_number_key (unset_key k) = 1
is_number_key (load_key k) = 1
is_number_key (call_key k) = 1
is_number_key (loop_key k j) = 1

abbrev number_keys : List KeyInfo → ℕ
number_keys [] = 0
number_keys (x ∷ xs) = is_number_key x.key + number_keys xs

numbers_append : (xs ys : List KeyInfo) → number_keys (xs ++ ys) ≡ number_keys xs + number_keys ys
numbers_append [] ys = omega arith
numbers_append (x ∷ xs) ys = omega (arith, numbers_append xs ys)

-- an address is the one of a memory object
one_at_least : (ty : Typing) (x : KeyInfo) (key : Key) → 1 ≤ length (key_objects ty x.name x.size key) + is_number_key key
one_at_least ty x (parameter_key k) = omega arith
one_at_least ty x (address_key k) = omega arith
one_at_least ty x (unset_key k) = omega arith
one_at_least ty x (load_key k) = omega arith
one_at_least ty x (call_key k) = omega arith
one_at_least ty x (loop_key k j) = omega arith

bits_few : (ty : Typing) (keys : List KeyInfo) → input_bits keys ≤ 64 * length (objects_in ty keys) + 64 * number_keys keys
bits_few ty [] = omega arith
bits_few ty (x ∷ xs) =
    omega (arith, sum_by-cons (λ (z : KeyInfo). width_of z.kind) x xs, width_most x.kind, bits_few ty xs, one_at_least ty x x.key, length-append (key_objects ty x.name x.size x.key) (objects_in ty xs))

-- ---- the keys of a visit

one_if : (b : Bool) (x : KeyInfo) → is_number_key x.key ≤ 1 → number_keys (if b then x ∷ [] else []) ≤ 1
one_if true x h = omega (arith, h)
one_if false x h = omega arith

none_if : (b : Bool) (x : KeyInfo) → is_number_key x.key ≡ 0 → number_keys (if b then x ∷ [] else []) ≡ 0
none_if true x h = omega (arith, h)
none_if false x h = refl

none_or : (b : Bool) (xs : List KeyInfo) → number_keys xs ≤ 1 → number_keys (if b then [] else xs) ≤ 1
none_or true xs h = omega arith
none_or false xs h = h

load_few : (g : Setting) (k : ℕ) (role : Role) (f : ExprFormTree) → number_keys (load_keys g k role f) ≤ 1
load_few g k role f = one_if (is_loaded (g.typing.type_at k) role.use_of (form_target g k f)) (number_info g.typing (load_key k) (g.typing.type_at k) None) (omega arith)

mention_none : (g : Setting) (k : ℕ) (at : Span) → number_keys (mention_keys g k at) ≡ 0
mention_none g k at = none_if (names_outside g.typing k && is_node k (mentioned_in (text_of g.typing.bytes at) g.mentions)) (address_info g.typing k (Some at)) refl

name_few : (g : Setting) (k : ℕ) (role : Role) (at : Span) → number_keys (name_keys g k role at) ≤ 1
name_few g k role at =
    none_or (is_some (g.typing.number_at k)) (mention_keys g k at ++ load_keys g k role (s.name at)) (omega (arith, numbers_append (mention_keys g k at) (load_keys g k role (s.name at)), mention_none g k at, load_few g k role (s.name at)))

result_few : (ty : Typing) (k : ℕ) (t : TypeTree) (l : Option Library) → number_keys (result_keys ty k t l) ≤ 1
result_few ty k t (Some l) = omega arith
result_few ty k t None = none_or (is_void t) (number_info ty (call_key k) t None ∷ []) (omega arith)

unary_few : (g : Setting) (k : ℕ) (role : Role) (op : UnaryOp) (f : ExprFormTree) → number_keys (unary_keys g k role op f) ≤ 1
unary_few g k role unary.Address f = omega arith
unary_few g k role unary.Deref f = load_few g k role f
unary_few g k role unary.Plus f = omega arith
unary_few g k role unary.Minus f = omega arith
unary_few g k role unary.Flip f = omega arith
unary_few g k role unary.Not f = omega arith

form_few : (g : Setting) (k : ℕ) (role : Role) (f : ExprFormTree) → number_keys (form_keys g k role f) ≤ 1
form_few g k role (s.name at) = name_few g k role at
form_few g k role (s.number at) = omega arith
form_few g k role (s.character at) = omega arith
form_few g k role (s.text parts) = omega arith
form_few g k role (s.paren e) = omega arith
form_few g k role (s.index a b) = load_few g k role (s.index a b)
form_few g k role (s.call e es) = result_few g.typing k (result_in (called_signature g.typing e)) (called_library g.typing e)
form_few g k role (s.dot e at) = load_few g k role (s.dot e at)
form_few g k role (s.arrow e at) = load_few g k role (s.arrow e at)
form_few g k role (s.step op e) = omega arith
form_few g k role (s.unary op e) = unary_few g k role op (s.unary op e)
form_few g k role (s.size_expression e) = omega arith
form_few g k role (s.size_name t) = omega arith
form_few g k role (s.cast t e) = omega arith
form_few g k role (s.binary op a b) = omega arith
form_few g k role (s.choice a b c) = omega arith
form_few g k role (s.assign op a b) = omega arith

declarator_few : (g : Setting) (k : ℕ) (at : Option Span) (init : MaybeInitTree) (t : Target) → number_keys (declarator_keys g k at init t) ≤ 1
declarator_few g k at s.no_initialiser (in_register i) = omega arith
declarator_few g k at (s.some_initialiser x) (in_register i) = omega arith
declarator_few g k at init (in_kept q) = omega arith
declarator_few g k at init (in_object o) = omega arith
declarator_few g k at init unnamed = omega arith

loop_few : (g : Setting) (k : ℕ) (js : List ℕ) → number_keys (loop_keys g k js) ≡ length js
loop_few g k [] = refl
loop_few g k (j ∷ js) = omega (arith, loop_few g k js)

-- the registers that loops set first
abbrev set_first : Setting → Visit → ℕ
set_first g (at_expression k role f) = 0
set_first g (at_declarator k static at init) = 0
set_first g (at_statement k arm f) = length (assigned_in g f)
set_first g (at_section k ls) = 0

abbrev all_set_first : Setting → Visits → ℕ
all_set_first g no_visit = 0
all_set_first g (one_visit x) = set_first g x
all_set_first g (both_visits a b) = all_set_first g a + all_set_first g b
all_set_first g (scope ks a) = all_set_first g a
all_set_first g (unevaluated a) = 0

visit_few : (g : Setting) (x : Visit) → number_keys (visit_keys g x) ≤ 1 + set_first g x
visit_few g (at_expression k role f) = omega (arith, form_few g k role f)
visit_few g (at_declarator k static at init) = omega (arith, declarator_few g k at init (target_at g k))
visit_few g (at_statement k arm f) = omega (arith, loop_few g k (assigned_in g f))
visit_few g (at_section k ls) = omega arith

visits_few : (g : Setting) (v : Visits) → number_keys (collected (visit_keys g) v) ≤ evaluated_count v + all_set_first g v
visits_few g no_visit = omega arith
visits_few g (one_visit x) = visit_few g x
visits_few g (both_visits a b) = omega (arith, numbers_append (collected (visit_keys g) a) (collected (visit_keys g) b), visits_few g a, visits_few g b)
visits_few g (scope ks a) = visits_few g a
visits_few g (unevaluated a) = omega arith

-- ---- loops pay for their registers

none_kept : (xs : List ℕ) → length (filter (λ k. false) xs) ≡ 0
none_kept [] = refl
none_kept (x ∷ xs) = none_kept xs

statement_pays : (g : Setting) (f : StmtFormTree) → 64 * length (assigned_in g f) ≤ statement_weight g f
statement_pays g (s.block ps) = omega (arith, none_kept g.registers)
statement_pays g (s.expression_statement e) = omega (arith, none_kept g.registers)
statement_pays g (s.if_statement e x y) = omega (arith, none_kept g.registers)
statement_pays g (s.switch_statement e ss) = omega (arith, none_kept g.registers)
statement_pays g (s.while_statement e x) = omega (arith, assigned_few g (s.while_statement e x))
statement_pays g (s.do_statement x e) = omega (arith, assigned_few g (s.do_statement x e))
statement_pays g (s.for_statement first test step x) = omega (arith, assigned_few g (s.for_statement first test step x))
statement_pays g s.break_statement = omega (arith, none_kept g.registers)
statement_pays g s.continue_statement = omega (arith, none_kept g.registers)
statement_pays g (s.return_statement e) = omega (arith, none_kept g.registers)

visit_pays : (g : Setting) (x : Visit) → 64 * set_first g x ≤ visit_weight g true x
visit_pays g (at_expression k role f) = omega arith
visit_pays g (at_declarator k static at init) = omega arith
visit_pays g (at_statement k arm f) = statement_pays g f
visit_pays g (at_section k ls) = omega arith

visits_pay : (g : Setting) (v : Visits) → 64 * all_set_first g v ≤ visits_weight g true v
visits_pay g no_visit = omega arith
visits_pay g (one_visit x) = visit_pays g x
visits_pay g (both_visits a b) = omega (arith, visits_pay g a, visits_pay g b)
visits_pay g (scope ks a) = visits_pay g a
visits_pay g (unevaluated a) = omega arith

-- ---- parameters

parameters_few : (ps : ParamTrees) → length (parameter_declarators ps) ≤ parameters_nodes ps
parameters_few s.no_parameters = omega arith
parameters_few (s.then_parameter (s.parameter n b d) ps) = omega (arith, parameters_few ps)

tail_few : (t : TailTree) → length (tail_parameters t) ≤ tail_nodes t
tail_few (s.arrays ds) = omega arith
tail_few s.unspecified = omega arith
tail_few s.void_parameters = omega arith
tail_few (s.with_parameters ps more) = parameters_few ps

head_few : (d : DeclrTree) → length (head_parameters d) ≤ declarator_nodes d
head_few (s.declarator n count at tail init) = omega (arith, tail_few tail)

function_few : (f : FunctionTree) → length (parameters_of f) ≤ function_nodes f
function_few (s.function word b d body) = omega (arith, head_few d)

filtered : {A : Type 0} (p : A → Bool) (xs : List A) → length (filter p xs) ≤ length xs
filtered p [] = omega arith
filtered {A} p (x ∷ xs) = by (p x) (filtered p xs)
  where
    by : (b : Bool) → length (filter p xs) ≤ length xs → length (if b then x ∷ filter p xs else filter p xs) ≤ length (x ∷ xs)
    by true h = omega (arith, h)
    by false h = omega (arith, h)

parameter_numbers : (ty : Typing) (ds : List DeclrTree) → number_keys (map (parameter_info ty) ds) ≡ length ds
parameter_numbers ty [] = refl
parameter_numbers ty (s.declarator n count at tail init ∷ ds) = omega (arith, parameter_numbers ty ds)

memory_numbers : (ty : Typing) (ds : List DeclrTree) → number_keys (map (memory_info ty) ds) ≡ 0
memory_numbers ty [] = refl
memory_numbers ty (s.declarator n count at tail init ∷ ds) = omega (arith, memory_numbers ty ds)

-- ---- the whole function

bits_within : (ty : Typing) (without : Kinds) (f : FunctionTree) → input_bits (keys_of ty without f) ≤ weight ty without f
bits_within ty without f =
    let g = setting_of ty without f in
    let v = function_visits ty f in
    let a = map (parameter_info ty) (register_parameters ty f) in
    let b = map (memory_info ty) (memory_parameters ty f) in
    let c = collected (visit_keys (first_setting ty without f)) v in
    let same : number_keys c ≡ number_keys (collected (visit_keys g) v) = ap number_keys (keys_same (first_setting ty without f) (kept_of ty without f) v) in
    omega (
      arith,
      bits_few ty (keys_of ty without f),
      numbers_append a (b ++ c),
      numbers_append b c,
      parameter_numbers ty (register_parameters ty f),
      memory_numbers ty (memory_parameters ty f),
      filtered (λ d. fits_register ty (declarator_node d)) (parameters_of f),
      function_few f,
      same,
      visits_few g v,
      (function_fine ty f).few,
      visits_pay g v,
    )

few_places : (n w m : ℕ) → n ≤ m → m ≤ w → w ≤ 8000000 → n < 4294967296
few_places n w m a b c = omega (arith, a, b, c)

pub keys_are_within_weight : KeysAreWithinWeight
keys_are_within_weight = record {
  few = λ ty without f. keys_few (keys_of ty without f);
  bits = λ ty without f. bits_within ty without f;
  places = λ ty without f h. few_places (length (keys_of ty without f)) (weight ty without f) (input_bits (keys_of ty without f)) (keys_few (keys_of ty without f)) (bits_within ty without f) h;
}
