-- A function whose input maps have less than 64 bits has no object in memory, since the address of each is a key.
use Rattle.std.proofs.Common.{◌≡◌, ℕ, ◌+◌, ◌<◌, Bool, true, false, List, [], ◌∷◌, ◌++◌, map, Option, Some, None, refl, subst, arith}
use Rattle.std.specs.Prelude.{if◌then◌else◌, ◌&&◌}
use Rattle.std.specs.Option.{is_some}
use Rattle.std.proofs.lemmas.List.Sums.{sum_by-cons}
use Rattle.stk_base.specs.declared.span.Span.{Span}
use Rattle.stk_base.specs.Text.{text_of}
use Rattle.stk_ctype.specs.declared.kind.IntKind.{IntKind}
use Rattle.stk_ctype.specs.declared.kind.IntKind.TheVariants as kind
use Rattle.stk_ctype.specs.Types.{TypeTree}
use Rattle.stk_tree.specs.declared.expression.UnaryOp.{UnaryOp}
use Rattle.stk_tree.specs.declared.expression.UnaryOp.TheVariants as unary
use Rattle.stk_tree.specs.Syntax.{DeclrTree, ExprFormTree, MaybeInitTree, FunctionTree}
use Rattle.stk_tree.specs.Syntax as s
use Rattle.stk_numbers.specs.declared.conditions.Kinds.{Kinds}
use Rattle.stk_numbers.specs.Kinds.{width_of}
use Rattle.stk_type_rules.specs.Types.{is_void}
use Rattle.stk_meaning.specs.Typings.{Typing}
use Rattle.stk_meaning.specs.Libraries.{Library, called_library, called_signature, result_in}
use Rattle.stk_meaning.specs.Places.{mentioned_in, Setting, Target, in_register, in_kept, in_object, unnamed, target_at, form_target}
use Rattle.stk_meaning.specs.Visits.{Role, Visit, at_expression, at_declarator, at_statement, at_section, Visits, no_visit, one_visit, both_visits, scope, unevaluated, collected}
use Rattle.stk_meaning.specs.Changes.{assigned_in}
use Rattle.stk_meaning.specs.Keys.{Key, parameter_key, address_key, unset_key, load_key, call_key, loop_key, KeyInfo, names_outside, is_node, is_loaded, load_keys, mention_keys, name_keys, result_keys, unary_keys, form_keys, unset_keys, declarator_keys, loop_keys, visit_keys, parameter_info, memory_info, register_parameters, memory_parameters, function_visits, keys_in, keys_of, first_setting, key_objects, objects_in, objects_of, input_bits}

-- the number of an address is an `unsigned long`
abbrev IsWide : Key → IntKind → Type 0
IsWide (parameter_key k) j = Unit {0}
IsWide (address_key k) j = j ≡ kind.ULong
IsWide (unset_key k) j = Unit {0}
IsWide (load_key k) j = Unit {0}
IsWide (call_key k) j = Unit {0}
IsWide (loop_key k l) j = Unit {0}

abbrev AreWide : List KeyInfo → Type 0
AreWide [] = Unit {0}
AreWide (x ∷ xs) = IsWide x.key x.kind × AreWide xs

wide-append : (xs ys : List KeyInfo) → AreWide xs → AreWide ys → AreWide (xs ++ ys)
wide-append [] ys a b = b
wide-append (x ∷ xs) ys a b = (a.0, wide-append xs ys a.1 b)

wide-if : (b : Bool) (xs : List KeyInfo) → AreWide xs → AreWide (if b then xs else [])
wide-if true xs h = h
wide-if false xs h = tt

wide-unless : (b : Bool) (xs : List KeyInfo) → AreWide xs → AreWide (if b then [] else xs)
wide-unless true xs h = tt
wide-unless false xs h = h

wide-collected : (f : Visit → List KeyInfo) → ((x : Visit) → AreWide (f x)) → (v : Visits) → AreWide (collected f v)
wide-collected f each no_visit = tt
wide-collected f each (one_visit x) = each x
wide-collected f each (both_visits a b) = wide-append (collected f a) (collected f b) (wide-collected f each a) (wide-collected f each b)
wide-collected f each (scope ks a) = wide-collected f each a
wide-collected f each (unevaluated a) = tt

module _ (g : Setting) where
  wide-load : (k : ℕ) (role : Role) (f : ExprFormTree) → AreWide (load_keys g k role f)
  wide-load k role f = wide-if (is_loaded (g.typing.type_at k) role.use_of (form_target g k f)) _ (tt, tt)

  wide-mention : (k : ℕ) (at : Span) → AreWide (mention_keys g k at)
  wide-mention k at = wide-if (names_outside g.typing k && is_node k (mentioned_in (text_of g.typing.bytes at) g.mentions)) _ (refl, tt)

  wide-name : (k : ℕ) (role : Role) (at : Span) → AreWide (name_keys g k role at)
  wide-name k role at = wide-unless (is_some (g.typing.number_at k)) _ (wide-append (mention_keys g k at) (load_keys g k role (s.name at)) (wide-mention k at) (wide-load k role (s.name at)))

  wide-result : (k : ℕ) (t : TypeTree) (o : Option Library) → AreWide (result_keys g.typing k t o)
  wide-result k t (Some library) = tt
  wide-result k t None = wide-unless (is_void t) _ (tt, tt)

  wide-unary : (k : ℕ) (role : Role) (op : UnaryOp) (f : ExprFormTree) → AreWide (unary_keys g k role op f)
  wide-unary k role unary.Address f = tt
  wide-unary k role unary.Deref f = wide-load k role f
  wide-unary k role unary.Plus f = tt
  wide-unary k role unary.Minus f = tt
  wide-unary k role unary.Flip f = tt
  wide-unary k role unary.Not f = tt

  wide-form : (k : ℕ) (role : Role) (f : ExprFormTree) → AreWide (form_keys g k role f)
  wide-form k role (s.name at) = wide-name k role at
  wide-form k role (s.number at) = tt
  wide-form k role (s.character at) = tt
  wide-form k role (s.text parts) = (refl, tt)
  wide-form k role (s.paren e) = tt
  wide-form k role (s.index a b) = wide-load k role (s.index a b)
  wide-form k role (s.call e es) = wide-result k (result_in (called_signature g.typing e)) (called_library g.typing e)
  wide-form k role (s.dot e at) = wide-load k role (s.dot e at)
  wide-form k role (s.arrow e at) = wide-load k role (s.arrow e at)
  wide-form k role (s.step op e) = tt
  wide-form k role (s.unary op e) = wide-unary k role op (s.unary op e)
  wide-form k role (s.size_expression e) = tt
  wide-form k role (s.size_name t) = tt
  wide-form k role (s.cast t e) = tt
  wide-form k role (s.binary op a b) = tt
  wide-form k role (s.choice a b c) = tt
  wide-form k role (s.assign op a b) = tt

  wide-unset : (k : ℕ) (at : Option Span) (init : MaybeInitTree) → AreWide (unset_keys g.typing k at init)
  wide-unset k at s.no_initialiser = (tt, tt)
  wide-unset k at (s.some_initialiser x) = tt

  wide-declarator : (k : ℕ) (at : Option Span) (init : MaybeInitTree) (target : Target) → AreWide (declarator_keys g k at init target)
  wide-declarator k at init (in_register i) = wide-unset k at init
  wide-declarator k at init (in_kept q) = (refl, tt)
  wide-declarator k at init (in_object o) = (refl, tt)
  wide-declarator k at init unnamed = (refl, tt)

  wide-loop : (k : ℕ) (js : List ℕ) → AreWide (loop_keys g k js)
  wide-loop k [] = tt
  wide-loop k (j ∷ js) = (tt, wide-loop k js)

  wide-visit : (x : Visit) → AreWide (visit_keys g x)
  wide-visit (at_expression k role f) = wide-form k role f
  wide-visit (at_declarator k static at init) = wide-declarator k at init (target_at g k)
  wide-visit (at_statement k arm f) = wide-loop k (assigned_in g f)
  wide-visit (at_section k ls) = tt

  wide-parameter : (d : DeclrTree) → AreWide (parameter_info g.typing d ∷ [])
  wide-parameter (s.declarator n count at tail init) = (tt, tt)

  wide-parameters : (ds : List DeclrTree) → AreWide (map (parameter_info g.typing) ds)
  wide-parameters [] = tt
  wide-parameters (d ∷ ds) = ((wide-parameter d).0, wide-parameters ds)

  wide-memory : (d : DeclrTree) → AreWide (memory_info g.typing d ∷ [])
  wide-memory (s.declarator n count at tail init) = (refl, tt)

  wide-memories : (ds : List DeclrTree) → AreWide (map (memory_info g.typing) ds)
  wide-memories [] = tt
  wide-memories (d ∷ ds) = ((wide-memory d).0, wide-memories ds)

  wide-keys : (f : FunctionTree) → AreWide (keys_in g f)
  wide-keys f =
      wide-append (map (parameter_info g.typing) (register_parameters g.typing f)) _ (wide-parameters (register_parameters g.typing f))
      (wide-append (map (memory_info g.typing) (memory_parameters g.typing f)) _ (wide-memories (memory_parameters g.typing f)) (wide-collected (visit_keys g) wide-visit (function_visits g.typing f)))

-- ---- no objects

no_object : (ty : Typing) (at : Option Span) (size : ℕ) (key : Key) (j : IntKind) → IsWide key j → width_of j < 64 → key_objects ty at size key ≡ []
no_object ty at size (parameter_key k) j wide few = refl
no_object ty at size (address_key k) j wide few = absurd (too_wide (subst (λ (i : IntKind). width_of i < 64) wide few)) where
  too_wide : width_of kind.ULong < 64 → ⊥
  too_wide h = omega (arith, h)
no_object ty at size (unset_key k) j wide few = refl
no_object ty at size (load_key k) j wide few = refl
no_object ty at size (call_key k) j wide few = refl
no_object ty at size (loop_key k l) j wide few = refl

none_in : (ty : Typing) (keys : List KeyInfo) → AreWide keys → input_bits keys < 64 → objects_in ty keys ≡ []
none_in ty [] wide few = refl
none_in ty (x ∷ xs) wide few =
    let sum : input_bits (x ∷ xs) ≡ width_of x.kind + input_bits xs = sum_by-cons (λ (k : KeyInfo). width_of k.kind) x xs in
    let here : key_objects ty x.name x.size x.key ≡ [] = no_object ty x.name x.size x.key x.kind wide.0 (omega (arith, few, sum)) in
    let rest : objects_in ty xs ≡ [] = none_in ty xs wide.1 (omega (arith, few, sum)) in
    rw (here, rest) refl

pub no_objects : (ty : Typing) (without : Kinds) (f : FunctionTree) → input_bits (keys_of ty without f) < 64 → objects_of ty without f ≡ []
no_objects ty without f few = none_in ty (keys_of ty without f) (wide-keys (first_setting ty without f) f) few
