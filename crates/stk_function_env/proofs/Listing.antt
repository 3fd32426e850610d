-- The setting of a function, from the lists of its parts.
use Rattle.std.proofs.Common.{ℕ, ◌≡◌, Bool, true, false, not, ◌&&◌, List, [], ◌∷◌, ◌++◌, map, take, Option, refl, sym, ap, ◌∙◌, subst}
use Rattle.std.specs.Prelude.{if◌then◌else◌, filter}
use Rattle.std.specs.Option.{is_some}
use Rattle.std.proofs.lemmas.List.{map-append}
use Rattle.std.proofs.lemmas.List.Elements.{filter-append}
use Rattle.stk_base.specs.declared.span.Span.{Span}
use Rattle.stk_tree.specs.Syntax.{TailTree, DeclrTree, ParamTrees, FunctionTree}
use Rattle.stk_tree.specs.Syntax as s
use Rattle.stk_tree.specs.Parts.{declared_parameters, parameters_in}
use Rattle.stk_numbers.specs.declared.conditions.Kinds.{Kinds}
use Rattle.stk_type_rules.specs.Types.{is_scalar}
use Rattle.stk_meaning.specs.Typings.{Typing, declarator_node}
use Rattle.stk_meaning.specs.Places.{Setting, Mention}
use Rattle.stk_meaning.specs.Keys.{Key, parameter_key, address_key, unset_key, load_key, call_key, loop_key, KeyInfo, fits_register, parameter_declarator, parameter_declarators, head_parameters, parameters_of, head_of, function_visits, registers_of, visit_registers, visit_mentions, visit_keys, parameter_info, memory_info, keys_in, keys_of, first_setting, setting_of, Object, object_of, objects_in, key_objects, kept_of}
use Rattle.stk_meaning.specs.Visits.{collected}
use Rattle.stk_function_types.specs.Visits.{MarkedVisit, marked_visits}
use Rattle.stk_function_types.specs.Gathered.{gathered}
use Rattle.stk_function_types.proofs.Gathering.{gathered-marked_visits}
use Rattle.stk_function_env.specs.Listed.{is_register_parameter, parameters_registers, register_parameter_keys, memory_parameter_keys, key_kept, keys_kept}
use Rattle.stk_function_env.proofs.Filters.{filter-cons}

-- ---- parameters
registers-list : (ty : Typing) (ps : ParamTrees) → filter (λ k. fits_register ty k) (map declarator_node (parameter_declarators ps)) ≡ parameters_registers ty ps
registers-list ty s.no_parameters = refl
registers-list ty (s.then_parameter p ps) =
    filter-cons (λ k. fits_register ty k) (declarator_node (parameter_declarator p)) (map declarator_node (parameter_declarators ps)) ∙ ap (λ xs. (if is_register_parameter ty p then declarator_node (parameter_declarator p) ∷ [] else []) ++ xs) (registers-list ty ps)

by_register : {A B : Type 0} (b : Bool) (f : A → B) (x : A) → map f (if b then x ∷ [] else []) ≡ (if b then f x ∷ [] else [])
by_register true f x = refl
by_register false f x = refl

by_memory : {A B : Type 0} (b : Bool) (f : A → B) (x : A) → map f (if not b then x ∷ [] else []) ≡ (if b then [] else f x ∷ [])
by_memory true f x = refl
by_memory false f x = refl

register-keys-list : (ty : Typing) (ps : ParamTrees) → map (parameter_info ty) (filter (λ d. fits_register ty (declarator_node d)) (parameter_declarators ps)) ≡ register_parameter_keys ty ps
register-keys-list ty s.no_parameters = refl
register-keys-list ty (s.then_parameter p ps) =
    ap (map (parameter_info ty)) (filter-cons (λ d. fits_register ty (declarator_node d)) (parameter_declarator p) (parameter_declarators ps))
    ∙ map-append (parameter_info ty) (if is_register_parameter ty p then parameter_declarator p ∷ [] else []) (filter (λ d. fits_register ty (declarator_node d)) (parameter_declarators ps))
    ∙ ap (λ xs. xs ++ map (parameter_info ty) (filter (λ d. fits_register ty (declarator_node d)) (parameter_declarators ps))) (by_register (is_register_parameter ty p) (parameter_info ty) (parameter_declarator p))
    ∙ ap (λ xs. (if is_register_parameter ty p then parameter_info ty (parameter_declarator p) ∷ [] else []) ++ xs) (register-keys-list ty ps)

memory-keys-list : (ty : Typing) (ps : ParamTrees) → map (memory_info ty) (filter (λ d. not (fits_register ty (declarator_node d))) (parameter_declarators ps)) ≡ memory_parameter_keys ty ps
memory-keys-list ty s.no_parameters = refl
memory-keys-list ty (s.then_parameter p ps) =
    ap (map (memory_info ty)) (filter-cons (λ d. not (fits_register ty (declarator_node d))) (parameter_declarator p) (parameter_declarators ps))
    ∙ map-append (memory_info ty) (if not (is_register_parameter ty p) then parameter_declarator p ∷ [] else []) (filter (λ d. not (fits_register ty (declarator_node d))) (parameter_declarators ps))
    ∙ ap (λ xs. xs ++ map (memory_info ty) (filter (λ d. not (fits_register ty (declarator_node d))) (parameter_declarators ps))) (by_memory (is_register_parameter ty p) (memory_info ty) (parameter_declarator p))
    ∙ ap (λ xs. (if is_register_parameter ty p then [] else memory_info ty (parameter_declarator p) ∷ []) ++ xs) (memory-keys-list ty ps)

tail-parameters : (d : DeclrTree) → head_parameters d ≡ parameter_declarators (declared_parameters d)
tail-parameters (s.declarator n count at (s.arrays sizes) init) = refl
tail-parameters (s.declarator n count at s.unspecified init) = refl
tail-parameters (s.declarator n count at s.void_parameters init) = refl
tail-parameters (s.declarator n count at (s.with_parameters ps more) init) = refl

function-parameters : (f : FunctionTree) → parameters_of f ≡ parameter_declarators (declared_parameters (head_of f))
function-parameters (s.function word specifiers d body) = tail-parameters d

-- ---- the parts of a setting
pub registers_are : (ty : Typing) (f : FunctionTree) (ps : ParamTrees) (ms : List MarkedVisit) (registers : List ℕ) → ps ≡ declared_parameters (head_of f) → ms ≡ marked_visits true (function_visits ty f) → registers ≡ parameters_registers ty ps ++ gathered (visit_registers ty) ms → registers ≡ registers_of ty f
registers_are ty f ps ms registers hp hm hr =
    hr ∙ ap (λ qs. parameters_registers ty qs ++ gathered (visit_registers ty) ms) hp ∙ ap (λ ns. parameters_registers ty (declared_parameters (head_of f)) ++ gathered (visit_registers ty) ns) hm ∙ ap (λ xs. parameters_registers ty (declared_parameters (head_of f)) ++ xs) (gathered-marked_visits (visit_registers ty) (function_visits ty f)) ∙ ap (λ xs. xs ++ collected (visit_registers ty) (function_visits ty f)) (sym (registers-list ty (declared_parameters (head_of f)))) ∙ ap (λ ds. filter (λ k. fits_register ty k) (map declarator_node ds) ++ collected (visit_registers ty) (function_visits ty f)) (sym (function-parameters f))

pub mentions_are : (ty : Typing) (f : FunctionTree) (ms : List MarkedVisit) (mentions : List Mention) → ms ≡ marked_visits true (function_visits ty f) → mentions ≡ gathered (visit_mentions ty) ms → mentions ≡ collected (visit_mentions ty) (function_visits ty f)
mentions_are ty f ms mentions hm h = h ∙ ap (gathered (visit_mentions ty)) hm ∙ gathered-marked_visits (visit_mentions ty) (function_visits ty f)

pub keys_are : (ty : Typing) (without : Kinds) (f : FunctionTree) (g : Setting) (ps : ParamTrees) (ms : List MarkedVisit) (keys : List KeyInfo) → g ≡ first_setting ty without f → ps ≡ declared_parameters (head_of f) → ms ≡ marked_visits true (function_visits ty f) → keys ≡ register_parameter_keys ty ps ++ (memory_parameter_keys ty ps ++ gathered (visit_keys g) ms) → keys ≡ keys_of ty without f
keys_are ty without f g ps ms keys hg hp hm hk =
    hk
    ∙ ap (λ h. register_parameter_keys ty ps ++ (memory_parameter_keys ty ps ++ gathered (visit_keys h) ms)) hg
    ∙ ap (λ qs. register_parameter_keys ty qs ++ (memory_parameter_keys ty qs ++ gathered (visit_keys (first_setting ty without f)) ms)) hp
    ∙ ap (λ ns. register_parameter_keys ty (declared_parameters (head_of f)) ++ (memory_parameter_keys ty (declared_parameters (head_of f)) ++ gathered (visit_keys (first_setting ty without f)) ns)) hm
    ∙ ap (λ xs. register_parameter_keys ty (declared_parameters (head_of f)) ++ (memory_parameter_keys ty (declared_parameters (head_of f)) ++ xs)) (gathered-marked_visits (visit_keys (first_setting ty without f)) (function_visits ty f))
    ∙ ap (λ xs. xs ++ (memory_parameter_keys ty (declared_parameters (head_of f)) ++ collected (visit_keys (first_setting ty without f)) (function_visits ty f))) (sym (register-keys-list ty (declared_parameters (head_of f))))
    ∙ ap (λ xs. map (parameter_info ty) (filter (λ d. fits_register ty (declarator_node d)) (parameter_declarators (declared_parameters (head_of f)))) ++ (xs ++ collected (visit_keys (first_setting ty without f)) (function_visits ty f))) (sym (memory-keys-list ty (declared_parameters (head_of f))))
    ∙ ap (λ ds. map (parameter_info ty) (filter (λ d. fits_register ty (declarator_node d)) ds) ++ (map (memory_info ty) (filter (λ d. not (fits_register ty (declarator_node d))) ds) ++ collected (visit_keys (first_setting ty without f)) (function_visits ty f))) (sym (function-parameters f))

-- ---- kept objects
by_number : (b : Bool) (o : Object) (k : ℕ) → map (λ (o : Object). o.node) (if b then o ∷ [] else []) ≡ (if b then o.node ∷ [] else [])
by_number true o k = refl
by_number false o k = refl

key-kept : (ty : Typing) (at : Option Span) (size : ℕ) (k : Key) → map (λ (o : Object). o.node) (filter (λ (o : Object). o.is_number) (key_objects ty at size k)) ≡ key_kept ty at k
key-kept ty at size (parameter_key k) = refl
key-kept ty at size (address_key k) = by_number (is_some at && is_scalar (ty.type_at k)) (object_of ty at k size) k
key-kept ty at size (unset_key k) = refl
key-kept ty at size (load_key k) = refl
key-kept ty at size (call_key k) = refl
key-kept ty at size (loop_key k j) = refl

keys-kept : (ty : Typing) (xs : List KeyInfo) → map (λ (o : Object). o.node) (filter (λ (o : Object). o.is_number) (objects_in ty xs)) ≡ keys_kept ty xs
keys-kept ty [] = refl
keys-kept ty (x ∷ xs) =
    ap (map (λ (o : Object). o.node)) (filter-append (λ (o : Object). o.is_number) (key_objects ty x.name x.size x.key) (objects_in ty xs)) ∙ map-append (λ (o : Object). o.node) (filter (λ (o : Object). o.is_number) (key_objects ty x.name x.size x.key)) (filter (λ (o : Object). o.is_number) (objects_in ty xs)) ∙ ap (λ ys. ys ++ map (λ (o : Object). o.node) (filter (λ (o : Object). o.is_number) (objects_in ty xs))) (key-kept ty x.name x.size x.key) ∙ ap (λ ys. key_kept ty x.name x.key ++ ys) (keys-kept ty xs)

pub kept_are : (ty : Typing) (without : Kinds) (f : FunctionTree) (keys : List KeyInfo) (kept : List ℕ) → keys ≡ keys_of ty without f → kept ≡ take 32 (keys_kept ty keys) → kept ≡ kept_of ty without f
kept_are ty without f keys kept hk h = h ∙ ap (λ xs. take 32 (keys_kept ty xs)) hk ∙ ap (take 32) (sym (keys-kept ty (keys_of ty without f)))
