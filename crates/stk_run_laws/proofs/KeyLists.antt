-- Facts of the keys and memory objects of a function.
use Rattle.std.proofs.Common.{◌≡◌, ℕ, Bool, true, false, List, [], ◌∷◌, ◌++◌, Option, Some, None, refl, sym, ap, ◌∙◌, subst, inl, inr, append_assoc}
use Rattle.std.specs.Prelude.{if◌then◌else◌, filter, map}
use Rattle.std.specs.Option.{is_some}
use Rattle.stk_base.specs.declared.span.Span.{Span}
use Rattle.stk_ctype.specs.Types.{TypeTree}
use Rattle.stk_tree.specs.declared.expression.UnaryOp.{UnaryOp}
use Rattle.stk_tree.specs.declared.expression.UnaryOp.TheVariants as unary
use Rattle.stk_tree.specs.Syntax.{ExprTree, ExprFormTree, DeclrTree, MaybeInitTree}
use Rattle.stk_tree.specs.Syntax as s
use Rattle.stk_type_rules.specs.Types.{is_void}
use Rattle.stk_meaning.specs.Typings.{Typing, number_kind, object_size}
use Rattle.stk_meaning.specs.Libraries.{Library, called_library, called_signature, result_in}
use Rattle.stk_meaning.specs.Places.{Setting, Target, in_register, in_kept, in_object, unnamed, target_at, form_target}
use Rattle.stk_meaning.specs.Visits.{Role, Visit, at_expression, at_declarator, at_statement, at_section, Visits, no_visit, one_visit, both_visits, scope, unevaluated, collected}
use Rattle.stk_meaning.specs.Changes.{assigned_in}
use Rattle.stk_meaning.specs.Keys.{Key, parameter_key, address_key, unset_key, load_key, call_key, loop_key, KeyInfo, address_info, number_info, is_loaded, load_keys, mention_keys, result_keys, unary_keys, form_keys, unset_keys, declarator_keys, loop_keys, visit_keys, Object, object_of, key_objects, objects_in}
use Rattle.stk_run_laws.specs.Visits.{IsIn, EachVisit}
use Rattle.stk_run_laws.proofs.Nodes.{in_either}
use Rattle.stk_run_laws.specs.TypedTree.{IsTypedVisit}
use Rattle.stk_run_laws.proofs.Maps.{kind_at}

-- ---- lists

pub in_map : {A B : Type 0} (f : A → B) (x : A) (xs : List A) → IsIn x xs → IsIn (f x) (map f xs)
in_map f x [] h = absurd h
in_map f x (y ∷ ys) (inl e) = inl (ap f e)
in_map f x (y ∷ ys) (inr h) = inr (in_map f x ys h)

pub record IsImage {A B : Type 0} (f : A → B) (xs : List A) (y : B) : Type 0 where
  pub of : A
  pub among : IsIn of xs
  pub is : y ≡ f of

pub in_image : {A B : Type 0} (f : A → B) (y : B) (xs : List A) → IsIn y (map f xs) → IsImage f xs y
in_image f y [] h = absurd h
in_image f y (x ∷ xs) (inl e) = record { of = x; among = inl refl; is = e }
in_image f y (x ∷ xs) (inr h) = let a = in_image f y xs h in record { of = a.of; among = inr a.among; is = a.is }

pub in_filter : {A : Type 0} (p : A → Bool) (x : A) (xs : List A) → IsIn x (filter p xs) → IsIn x xs × (p x ≡ true)
in_filter p x [] h = absurd h
in_filter {A} p x (y ∷ ys) h = by (p y) refl h (λ i. in_filter p x ys i)
  where
    by : (b : Bool) → p y ≡ b → IsIn x (if b then y ∷ filter p ys else filter p ys) → (IsIn x (filter p ys) → IsIn x ys × (p x ≡ true)) → IsIn x (y ∷ ys) × (p x ≡ true)
    by true e (inl s) more = (inl s, ap p s ∙ e)
    by true e (inr i) more = let a = more i in (inr a.0, a.1)
    by false e i more = let a = more i in (inr a.0, a.1)

in_if : {A : Type 0} (b : Bool) (x y : A) → IsIn y (if b then x ∷ [] else []) → y ≡ x
in_if true x y (inl e) = e
in_if true x y (inr h) = absurd h
in_if false x y h = absurd h

-- ---- kinds and sizes of keys

abbrev pub SizeWell : Typing → Key → ℕ → Type 0
SizeWell ty (parameter_key k) size = Unit {0}
SizeWell ty (address_key k) size = size ≡ object_size ty (ty.type_at k)
SizeWell ty (unset_key k) size = Unit {0}
SizeWell ty (load_key k) size = Unit {0}
SizeWell ty (call_key k) size = Unit {0}
SizeWell ty (loop_key k j) size = Unit {0}

-- the kind and the size of a key are those of its nodes' types
pub record IsKeyOf (ty : Typing) (x : KeyInfo) : Type 0 where
  pub kind : x.kind ≡ kind_at ty x.key
  pub size : SizeWell ty x.key x.size

one_key : (ty : Typing) (b : Bool) (x y : KeyInfo) → IsKeyOf ty x → IsIn y (if b then x ∷ [] else []) → IsKeyOf ty y
one_key ty b x y h i = subst (IsKeyOf ty) (sym (in_if b x y i)) h

single_key : (ty : Typing) (x y : KeyInfo) → IsKeyOf ty x → IsIn y (x ∷ []) → IsKeyOf ty y
single_key ty x y h (inl e) = subst (IsKeyOf ty) (sym e) h
single_key ty x y h (inr i) = absurd i

address_well : (ty : Typing) (k : ℕ) (at : Option Span) → IsKeyOf ty (address_info ty k at)
address_well ty k at = record { kind = refl; size = refl }

module _ (g : Setting) (objects : List Object) where
  load_well : (k : ℕ) (role : Role) (f : ExprFormTree) (y : KeyInfo) → IsIn y (load_keys g k role f) → IsKeyOf g.typing y
  load_well k role f y h = one_key g.typing (is_loaded (g.typing.type_at k) role.use_of (form_target g k f)) (number_info g.typing (load_key k) (g.typing.type_at k) None) y (record { kind = refl; size = tt }) h

  name_well : (k : ℕ) (role : Role) (at : Span) (b : Bool) (y : KeyInfo) → IsIn y (if b then [] else mention_keys g k at ++ load_keys g k role (s.name at)) → IsKeyOf g.typing y
  name_well k role at true y h = absurd h
  name_well k role at false y h = elim (in_either y (mention_keys g k at) (load_keys g k role (s.name at)) h) [ inl i ↦ one_key g.typing _ (address_info g.typing k (Some at)) y (address_well g.typing k (Some at)) i | inr i ↦ load_well k role (s.name at) y i ]

  result_well : (k : ℕ) (t : TypeTree) (library : Option Library) → g.typing.type_at k ≡ t → (y : KeyInfo) → IsIn y (result_keys g.typing k t library) → IsKeyOf g.typing y
  result_well k t (Some library) e y h = absurd h
  result_well k t None e y h = by (is_void t) h
    where
      by : (b : Bool) → IsIn y (if b then [] else number_info g.typing (call_key k) t None ∷ []) → IsKeyOf g.typing y
      by true h = absurd h
      by false h = single_key g.typing (number_info g.typing (call_key k) t None) y (record { kind = sym (ap number_kind e); size = tt }) h

  unary_well : (k : ℕ) (role : Role) (op : UnaryOp) (f : ExprFormTree) (y : KeyInfo) → IsIn y (unary_keys g k role op f) → IsKeyOf g.typing y
  unary_well k role unary.Address f y h = absurd h
  unary_well k role unary.Deref f y h = load_well k role f y h
  unary_well k role unary.Plus f y h = absurd h
  unary_well k role unary.Minus f y h = absurd h
  unary_well k role unary.Flip f y h = absurd h
  unary_well k role unary.Not f y h = absurd h

  form_well : (k : ℕ) (role : Role) (f : ExprFormTree) → IsTypedVisit g objects (at_expression k role f) → (y : KeyInfo) → IsIn y (form_keys g k role f) → IsKeyOf g.typing y
  form_well k role (s.name at) t y h = name_well k role at (is_some (g.typing.number_at k)) y h
  form_well k role (s.text parts) t y h = single_key g.typing (address_info g.typing k None) y (address_well g.typing k None) h
  form_well k role (s.index a b) t y h = load_well k role (s.index a b) y h
  form_well k role (s.call e es) t y h = result_well k (result_in (called_signature g.typing e)) (called_library g.typing e) t y h
  form_well k role (s.dot e at) t y h = load_well k role (s.dot e at) y h
  form_well k role (s.arrow e at) t y h = load_well k role (s.arrow e at) y h
  form_well k role (s.unary op e) t y h = unary_well k role op (s.unary op e) y h
  form_well k role f t y h = absurd h

  unset_well : (k : ℕ) (at : Option Span) (init : MaybeInitTree) (y : KeyInfo) → IsIn y (unset_keys g.typing k at init) → IsKeyOf g.typing y
  unset_well k at s.no_initialiser y h = single_key g.typing (number_info g.typing (unset_key k) (g.typing.type_at k) at) y (record { kind = refl; size = tt }) h
  unset_well k at (s.some_initialiser x) y h = absurd h

  declarator_well : (k : ℕ) (at : Option Span) (init : MaybeInitTree) (t : Target) (y : KeyInfo) → IsIn y (declarator_keys g k at init t) → IsKeyOf g.typing y
  declarator_well k at init (in_register i) y h = unset_well k at init y h
  declarator_well k at init (in_kept q) y h = single_key g.typing (address_info g.typing k at) y (address_well g.typing k at) h
  declarator_well k at init (in_object o) y h = single_key g.typing (address_info g.typing k at) y (address_well g.typing k at) h
  declarator_well k at init unnamed y h = single_key g.typing (address_info g.typing k at) y (address_well g.typing k at) h

  loop_well : (k : ℕ) (js : List ℕ) (y : KeyInfo) → IsIn y (loop_keys g k js) → IsKeyOf g.typing y
  loop_well k js y h = let a = in_image (λ j. number_info g.typing (loop_key k j) (g.typing.type_at j) None) y js h in subst (IsKeyOf g.typing) (sym a.is) (record { kind = refl; size = tt })

  visit_well : (x : Visit) → IsTypedVisit g objects x → (y : KeyInfo) → IsIn y (visit_keys g x) → IsKeyOf g.typing y
  visit_well (at_expression k role f) t y h = form_well k role f t y h
  visit_well (at_declarator k static at init) t y h = declarator_well k at init (target_at g k) y h
  visit_well (at_statement k arm f) t y h = loop_well k (assigned_in g f) y h
  visit_well (at_section k ls) t y h = absurd h

  pub keys_well : (v : Visits) → EachVisit (IsTypedVisit g objects) v → (y : KeyInfo) → IsIn y (collected (visit_keys g) v) → IsKeyOf g.typing y
  keys_well no_visit t y h = absurd h
  keys_well (one_visit x) t y h = visit_well x t y h
  keys_well (both_visits a b) t y h = elim (in_either y (collected (visit_keys g) a) (collected (visit_keys g) b) h) [ inl i ↦ keys_well a t.0 y i | inr i ↦ keys_well b t.1 y i ]
  keys_well (scope ks a) t y h = keys_well a t y h
  keys_well (unevaluated a) t y h = absurd h

-- ---- memory objects

append_in : (ty : Typing) (xs ys : List KeyInfo) → objects_in ty (xs ++ ys) ≡ objects_in ty xs ++ objects_in ty ys
append_in ty [] ys = refl
append_in ty (x ∷ xs) ys = ap (λ z. key_objects ty x.name x.size x.key ++ z) (append_in ty xs ys) ∙ sym (append_assoc (key_objects ty x.name x.size x.key) (objects_in ty xs) (objects_in ty ys))

map_append : {A B : Type 0} (f : A → B) (xs ys : List A) → map f (xs ++ ys) ≡ map f xs ++ map f ys
map_append f [] ys = refl
map_append f (x ∷ xs) ys = ap (λ z. f x ∷ z) (map_append f xs ys)

-- the nodes of the memory objects of keys
abbrev pub object_nodes : Typing → List KeyInfo → List ℕ
object_nodes ty xs = map (λ (o : Object). o.node) (objects_in ty xs)

pub nodes_append : (ty : Typing) (xs ys : List KeyInfo) → object_nodes ty (xs ++ ys) ≡ object_nodes ty xs ++ object_nodes ty ys
nodes_append ty xs ys = ap (map (λ (o : Object). o.node)) (append_in ty xs ys) ∙ map_append (λ (o : Object). o.node) (objects_in ty xs) (objects_in ty ys)

-- a memory object with its key
pub record IsObjectOf (ty : Typing) (keys : List KeyInfo) (o : Object) : Type 0 where
  pub info : KeyInfo
  pub among : IsIn info keys
  pub key : info.key ≡ address_key o.node
  pub is : o ≡ object_of ty info.name o.node info.size

key_object : (ty : Typing) (x : KeyInfo) (xs : List KeyInfo) (o : Object) (key : Key) → x.key ≡ key → IsIn o (key_objects ty x.name x.size key) → IsObjectOf ty (x ∷ xs) o
key_object ty x xs o (parameter_key k) e h = absurd h
key_object ty x xs o (address_key k) e (inl same) =
    let node : o.node ≡ k = ap (λ (z : Object). z.node) same in
    record { info = x; among = inl refl; key = e ∙ ap address_key (sym node); is = same ∙ ap (λ z. object_of ty x.name z x.size) (sym node) }
key_object ty x xs o (address_key k) e (inr h) = absurd h
key_object ty x xs o (unset_key k) e h = absurd h
key_object ty x xs o (load_key k) e h = absurd h
key_object ty x xs o (call_key k) e h = absurd h
key_object ty x xs o (loop_key k j) e h = absurd h

pub object_key : (ty : Typing) (keys : List KeyInfo) (o : Object) → IsIn o (objects_in ty keys) → IsObjectOf ty keys o
object_key ty [] o h = absurd h
object_key ty (x ∷ xs) o h =
    elim (in_either o (key_objects ty x.name x.size x.key) (objects_in ty xs) h) [
      | inl i ↦ key_object ty x xs o x.key refl i
      | inr i ↦ let a = object_key ty xs o i in record { info = a.info; among = inr a.among; key = a.key; is = a.is }
    ]
