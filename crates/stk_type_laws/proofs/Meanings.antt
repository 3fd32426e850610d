-- What a name means is a register or a memory object, and has its type: so each evaluated node is as it is asked of a
-- typed tree.
use Rattle.std.proofs.Common.{◌≡◌, ℕ, ◌+◌, ◌⊎◌, ◌==◌, Bool, true, false, not, ◌||◌, ◌&&◌, List, [], ◌∷◌, ◌++◌, Option, Some, None, refl, sym, ap, ◌∙◌, subst, inl, inr}
use Rattle.std.specs.Prelude.{if◌then◌else◌, map, filter, unwrap_or, ℤ}
use Rattle.std.specs.Option.{is_some}
use Rattle.std.proofs.lemmas.Bool.{eq-eqb}
use Rattle.std.proofs.lemmas.Slice.Eq.{bytes_eq-Decides}
use Rattle.stk_base.specs.declared.span.Span.{Span}
use Rattle.stk_base.specs.Text.{text_of, same_text}
use Rattle.stk_ctype.specs.declared.ctype.CType.{CType}
use Rattle.stk_ctype.specs.declared.symbol.Symbol.TheVariants as symbol
use Rattle.stk_ctype.specs.declared.symbol.NameEntry.{NameEntry}
use Rattle.stk_ctype.specs.Types.{TypeTree, void_type, integer_type, pointer_type, array_type, struct_type, function_type, type_of}
use Rattle.stk_ctype.specs.Names.{find}
use Rattle.stk_tree.specs.declared.node.Node.{Node}
use Rattle.stk_tree.specs.Syntax.{ExprTree, ExprFormTree, TailTree, MaybeInitTree, FunctionTree}
use Rattle.stk_tree.specs.Syntax as s
use Rattle.stk_numbers.specs.declared.conditions.Kinds.{Kinds}
use Rattle.stk_type_rules.specs.Types.{is_scalar, is_struct}
use Rattle.stk_meaning.specs.Typings.{Typing, is_among, is_array, declarator_node}
use Rattle.stk_meaning.specs.Places.{Mention, mentioned_in, in_register, in_object, object_named, position_behind, object_target, target_at}
use Rattle.stk_meaning.specs.Visits.{Role, Visit, at_expression, at_declarator, at_statement, at_section, Visits, no_visit, one_visit, both_visits, scope, unevaluated, collected}
use Rattle.stk_meaning.specs.Keys.{address_key, KeyInfo, parameters_of, function_visits, fits_register, visit_registers, registers_of, names_outside, form_mentions, visit_mentions, is_node, address_info, parameter_info, memory_info, register_parameters, memory_parameters, mention_keys, load_keys, declarator_keys, visit_keys, object_of, key_objects, objects_in, first_setting, keys_of, objects_of, setting_of}
use Rattle.stk_run_laws.specs.Visits.{IsIn, EachVisit}
use Rattle.stk_run_laws.proofs.Nodes.{in_left, in_right, in_either}
use Rattle.stk_run_laws.specs.TypedTree.{HasTypeOf, IsNamedObject, MeansObject, PlaceAgrees, FormAgrees, IsTypedName, IsTypedForm, IsTypedVisit}
use Rattle.stk_run_laws.proofs.KeyLists.{in_map}
use Rattle.stk_run_laws.proofs.Objects.{among_of}
use Rattle.stk_type_laws.proofs.Raw.{Occurs, Ground, Origin, local_origin, parameter_origin, Means, means_local, means_outside, RawPlace, RawPlaceForm, RawName, RawForm, RawVisit, each_at, each_mapped}

-- ---- lists

filtered_step : {A : Type 0} (p : A → Bool) (x y : A) (ys : List A) → p x ≡ true → (IsIn x ys → IsIn x (filter p ys)) → (b : Bool) → p y ≡ b → (x ≡ y) ⊎ IsIn x ys → IsIn x (if b then y ∷ filter p ys else filter p ys)
filtered_step p x y ys e rest true q (inl same) = inl same
filtered_step p x y ys e rest true q (inr j) = inr (rest j)
filtered_step p x y ys e rest false q (inl same) = let h : true ≡ false = sym e ∙ ap p same ∙ q in absurd cc
filtered_step p x y ys e rest false q (inr j) = rest j

in_filtered : {A : Type 0} (p : A → Bool) (x : A) (xs : List A) → IsIn x xs → p x ≡ true → IsIn x (filter p xs)
in_filtered p x [] i e = absurd i
in_filtered p x (y ∷ ys) i e = filtered_step p x y ys e (λ j. in_filtered p x ys j e) (p y) refl i

-- what an evaluated visit gives is collected, and all that is collected is given by one
in_collected : {A : Type 0} (F : Visit → List A) (y : A) (x : Visit) (v : Visits) → Occurs x v → IsIn y (F x) → IsIn y (collected F v)
in_collected F y x no_visit o i = absurd o
in_collected F y x (one_visit z) o i = subst (λ u. IsIn y (F u)) o i
in_collected F y x (both_visits a b) (inl o) i = in_left y (collected F a) (collected F b) (in_collected F y x a o i)
in_collected F y x (both_visits a b) (inr o) i = in_right y (collected F a) (collected F b) (in_collected F y x b o i)
in_collected F y x (scope ks a) o i = in_collected F y x a o i
in_collected F y x (unevaluated a) o i = absurd o

record FromVisit {A : Type 0} (F : Visit → List A) (y : A) (v : Visits) : Type 0 where
  visit : Visit
  occurs : Occurs visit v
  gives : IsIn y (F visit)

from_visit : {A : Type 0} (F : Visit → List A) (y : A) (v : Visits) → IsIn y (collected F v) → FromVisit F y v
from_visit F y no_visit i = absurd i
from_visit F y (one_visit z) i = record { visit = z; occurs = refl; gives = i }
from_visit F y (both_visits a b) i = elim (in_either y (collected F a) (collected F b) i) [
  | inl j ↦ let r = from_visit F y a j in record { visit = r.visit; occurs = inl r.occurs; gives = r.gives }
  | inr j ↦ let r = from_visit F y b j in record { visit = r.visit; occurs = inr r.occurs; gives = r.gives }
]
from_visit F y (scope ks a) i = let r = from_visit F y a i in record { visit = r.visit; occurs = r.occurs; gives = r.gives }
from_visit F y (unevaluated a) i = absurd i

-- ---- the first mention of a name

record FirstMention (name : List ℕ) (ms : List Mention) : Type 0 where
  mention : Mention
  among : IsIn mention ms
  same : mention.name ≡ name
  is : mentioned_in name ms ≡ Some mention.node

mention_step : (name : List ℕ) (ms : List Mention) (m x : Mention) → m.name ≡ name → (IsIn m ms → FirstMention name ms) → (b : Bool) → same_text x.name name ≡ b → (m ≡ x) ⊎ IsIn m ms → FirstMention name (x ∷ ms)
mention_step name ms m x e rest true p j = record { mention = x; among = inl refl; same = (bytes_eq-Decides x.name name).0 p; is = ap (λ c. if c then Some x.node else mentioned_in name ms) p }
mention_step name ms m x e rest false p (inl same) =
    let q : x.name ≡ name = ap (λ (z : Mention). z.name) (sym same) ∙ e in
    let h : true ≡ false = sym ((bytes_eq-Decides x.name name).1 q) ∙ p in
    absurd cc
mention_step name ms m x e rest false p (inr j) =
    let r = rest j in
    record { mention = r.mention; among = inr r.among; same = r.same; is = ap (λ c. if c then Some x.node else mentioned_in name ms) p ∙ r.is }

first_mention : (name : List ℕ) (ms : List Mention) (m : Mention) → IsIn m ms → m.name ≡ name → FirstMention name ms
first_mention name [] m i e = absurd i
first_mention name (x ∷ ms) m i e = mention_step name ms m x e (λ j. first_mention name ms m j e) (same_text x.name name) refl i

-- a mention is that of an evaluated name
record MentionedAt (ty : Typing) (v : Visits) (m : Mention) : Type 0 where
  role : Role
  at : Span
  occurs : Occurs (at_expression m.node role (s.name at)) v
  outside : names_outside ty m.node ≡ true
  name : m.name ≡ text_of ty.bytes at

mention_form : (ty : Typing) (v : Visits) (m : Mention) (k : ℕ) (role : Role) (f : ExprFormTree) → Occurs (at_expression k role f) v → IsIn m (form_mentions ty k f) → MentionedAt ty v m
mention_form ty v m k role (s.name at) o i = by (names_outside ty k) refl i
  where
    by : (b : Bool) → names_outside ty k ≡ b → IsIn m (if b then record { name = text_of ty.bytes at; node = k } ∷ [] else []) → MentionedAt ty v m
    by true p (inl same) =
        let node : m.node ≡ k = ap (λ (z : Mention). z.node) same in
        record {
          role = role;
          at = at;
          occurs = subst (λ j. Occurs (at_expression j role (s.name at)) v) (sym node) o;
          outside = subst (λ j. names_outside ty j ≡ true) (sym node) p;
          name = ap (λ (z : Mention). z.name) same;
        }
    by true p (inr j) = absurd j
    by false p j = absurd j
mention_form ty v m k role (s.number at) o i = absurd i
mention_form ty v m k role (s.character at) o i = absurd i
mention_form ty v m k role (s.text parts) o i = absurd i
mention_form ty v m k role (s.paren e) o i = absurd i
mention_form ty v m k role (s.index a b) o i = absurd i
mention_form ty v m k role (s.call e es) o i = absurd i
mention_form ty v m k role (s.dot e at) o i = absurd i
mention_form ty v m k role (s.arrow e at) o i = absurd i
mention_form ty v m k role (s.step op e) o i = absurd i
mention_form ty v m k role (s.unary op e) o i = absurd i
mention_form ty v m k role (s.size_expression e) o i = absurd i
mention_form ty v m k role (s.size_name t) o i = absurd i
mention_form ty v m k role (s.cast t e) o i = absurd i
mention_form ty v m k role (s.binary op a b) o i = absurd i
mention_form ty v m k role (s.choice a b d) o i = absurd i
mention_form ty v m k role (s.assign op a b) o i = absurd i

mention_visit : (ty : Typing) (v : Visits) (m : Mention) (x : Visit) → Occurs x v → IsIn m (visit_mentions ty x) → MentionedAt ty v m
mention_visit ty v m (at_expression k role f) o i = mention_form ty v m k role f o i
mention_visit ty v m (at_declarator k static at init) o i = absurd i
mention_visit ty v m (at_statement k arm f) o i = absurd i
mention_visit ty v m (at_section k ls) o i = absurd i

-- ---- memory objects

-- a memory object of the keys
key_in_objects : (ty : Typing) (xs : List KeyInfo) (x : KeyInfo) (k : ℕ) → IsIn x xs → x.key ≡ address_key k → IsIn (object_of ty x.name k x.size) (objects_in ty xs)
key_in_objects ty [] x k h e = absurd h
key_in_objects ty (y ∷ xs) x k (inl same) e =
    in_left (object_of ty x.name k x.size) (key_objects ty y.name y.size y.key) (objects_in ty xs)
    (subst (λ z. IsIn (object_of ty x.name k x.size) (key_objects ty z.name z.size z.key)) same
    (subst (λ key. IsIn (object_of ty x.name k x.size) (key_objects ty x.name x.size key)) (sym e) (inl refl)))
key_in_objects ty (y ∷ xs) x k (inr h) e = in_right (object_of ty x.name k x.size) (key_objects ty y.name y.size y.key) (objects_in ty xs) (key_in_objects ty xs x k h e)

module _ (ty : Typing) (without : Kinds) (f : FunctionTree) where
  -- an address that is listed with a name is that of an object
  object_listed : (k : ℕ) (at : Span) → IsIn (address_info ty k (Some at)) (keys_of ty without f) → IsNamedObject ty (objects_of ty without f) k
  object_listed k at i = record {
    object = object_of ty (Some at) k (address_info ty k (Some at)).size;
    among = key_in_objects ty (keys_of ty without f) (address_info ty k (Some at)) k i refl;
    node = refl;
    plain = λ h. h;
  }

  -- a key of an evaluated visit
  visit_listed : (x : Visit) (y : KeyInfo) → Occurs x (function_visits ty f) → IsIn y (visit_keys (first_setting ty without f) x) → IsIn y (keys_of ty without f)
  visit_listed x y o i =
      let c = in_collected (visit_keys (first_setting ty without f)) y x (function_visits ty f) o i in
      in_right y (map (parameter_info ty) (register_parameters ty f)) (map (memory_info ty) (memory_parameters ty f) ++ collected (visit_keys (first_setting ty without f)) (function_visits ty f))
      (in_right y (map (memory_info ty) (memory_parameters ty f)) (collected (visit_keys (first_setting ty without f)) (function_visits ty f)) c)

  -- a declarator or a first mention stands for a register or for a memory object
  means_by : (o : ℕ) → (is_among o (registers_of ty f) ≡ false → IsNamedObject ty (objects_of ty without f) o) → MeansObject ty (objects_of ty without f) o (target_at (setting_of ty without f) o)
  means_by o h = by (is_among o (registers_of ty f)) refl
    where
      placed : IsNamedObject ty (objects_of ty without f) o → (p : Option ℕ) → MeansObject ty (objects_of ty without f) o (object_target o p)
      placed n None = n
      placed n (Some q) = n

      by : (b : Bool) → is_among o (registers_of ty f) ≡ b → MeansObject ty (objects_of ty without f) o (if b then in_register o else object_target o (position_behind 0 o (setting_of ty without f).kept))
      by true p = tt
      by false p = placed (h p) (position_behind 0 o (setting_of ty without f).kept)

  -- a local's declarator
  local_object : (o : ℕ) (static : Bool) (at : Span) (init : MaybeInitTree) → Occurs (at_declarator o static (Some at) init) (function_visits ty f) → is_among o (registers_of ty f) ≡ false → IsNamedObject ty (objects_of ty without f) o
  local_object o static at init occurs none =
      let target : target_at (first_setting ty without f) o ≡ in_object o = ap (λ b. if b then in_register o else in_object o) none in
      object_listed o at (visit_listed (at_declarator o static (Some at) init) (address_info ty o (Some at)) occurs
      (subst (λ t. IsIn (address_info ty o (Some at)) (declarator_keys (first_setting ty without f) o (Some at) init t)) (sym target) (inl refl)))

  -- a parameter's
  parameter_object : (n : Node) (count : ℕ) (at : Span) (tail : TailTree) (init : MaybeInitTree) → IsIn (s.declarator n count (Some at) tail init) (parameters_of f) → is_among n.number (registers_of ty f) ≡ false → IsNamedObject ty (objects_of ty without f) n.number
  parameter_object n count at tail init i none = by (fits_register ty n.number) refl
    where
      by : (b : Bool) → fits_register ty n.number ≡ b → IsNamedObject ty (objects_of ty without f) n.number
      by true p =
          let j = in_filtered (λ k. fits_register ty k) n.number (map declarator_node (parameters_of f)) (in_map declarator_node (s.declarator n count (Some at) tail init) (parameters_of f) i) p in
          let k = in_left n.number (filter (λ k. fits_register ty k) (map declarator_node (parameters_of f))) (collected (visit_registers ty) (function_visits ty f)) j in
          let h : true ≡ false = sym (among_of n.number (registers_of ty f) k) ∙ none in
          absurd cc
      by false p =
          let j = in_filtered (λ d. not (fits_register ty (declarator_node d))) (s.declarator n count (Some at) tail init) (parameters_of f) i (ap not p) in
          let k = in_map (memory_info ty) (s.declarator n count (Some at) tail init) (memory_parameters ty f) j in
          object_listed n.number at
          (in_right (address_info ty n.number (Some at)) (map (parameter_info ty) (register_parameters ty f)) (map (memory_info ty) (memory_parameters ty f) ++ collected (visit_keys (first_setting ty without f)) (function_visits ty f))
          (in_left (address_info ty n.number (Some at)) (map (memory_info ty) (memory_parameters ty f)) (collected (visit_keys (first_setting ty without f)) (function_visits ty f)) k))

  -- an object of file scope, at its first mention
  mention_object : (k : ℕ) (role : Role) (at : Span) → Occurs (at_expression k role (s.name at)) (function_visits ty f) → names_outside ty k ≡ true → is_some (ty.number_at k) ≡ false
      → mentioned_in (text_of ty.bytes at) (first_setting ty without f).mentions ≡ Some k → IsNamedObject ty (objects_of ty without f) k
  mention_object k role at occurs outside none is =
      let g = first_setting ty without f in
      let loads = load_keys g k role (s.name at) in
      let x = address_info ty k (Some at) in
      let own : k == k ≡ true = eq-eqb k k refl in
      let firsts : names_outside ty k && is_node k (mentioned_in (text_of ty.bytes at) g.mentions) ≡ true = ap (λ b. b && is_node k (mentioned_in (text_of ty.bytes at) g.mentions)) outside ∙ ap (is_node k) is ∙ own in
      let i : IsIn x (mention_keys g k at) = subst (λ b. IsIn x (if b then x ∷ [] else [])) (sym firsts) (inl refl) in
      let j : IsIn x (mention_keys g k at ++ loads) = in_left x (mention_keys g k at) loads i in
      object_listed k at (visit_listed (at_expression k role (s.name at)) x occurs (subst (λ b. IsIn x (if b then [] else mention_keys g k at ++ loads)) (sym none) j))

  -- ---- what a name means

  -- a name's type is that of what it means, which is a register or a memory object
  record Meaning (k : ℕ) (at : Span) : Type 0 where
    type : HasTypeOf (ty.type_at k) (ty.type_at (object_named (setting_of ty without f) k at))
    means : MeansObject ty (objects_of ty without f) (object_named (setting_of ty without f) k at) (target_at (setting_of ty without f) (object_named (setting_of ty without f) k at))

  meaning_at : (k o : ℕ) (at : Span) → object_named (setting_of ty without f) k at ≡ o → HasTypeOf (ty.type_at k) (ty.type_at o) → MeansObject ty (objects_of ty without f) o (target_at (setting_of ty without f) o) → Meaning k at
  meaning_at k o at same type means = record {
    type = subst (λ z. HasTypeOf (ty.type_at k) (ty.type_at z)) (sym same) type;
    means = subst (λ z. MeansObject ty (objects_of ty without f) z (target_at (setting_of ty without f) z)) (sym same) means;
  }

  outside_of : (k : ℕ) → ty.means k ≡ None → ty.number_at k ≡ None → names_outside ty k ≡ true
  outside_of k p q = ap (λ o. not (is_some o || is_some (ty.number_at k))) p ∙ ap (λ o. not (is_some o)) q

  no_means : (k : ℕ) → names_outside ty k ≡ true → (ty.means k ≡ None) × (ty.number_at k ≡ None)
  no_means k e = by (ty.means k) refl (ty.number_at k) refl
    where
      by : (o : Option ℕ) → ty.means k ≡ o → (z : Option ℤ) → ty.number_at k ≡ z → (ty.means k ≡ None) × (ty.number_at k ≡ None)
      by None p None q = (p, q)
      by None p (Some z) q = let h : false ≡ true = sym (ap (λ o. not (is_some o || is_some (ty.number_at k))) p ∙ ap (λ o. not (is_some o)) q) ∙ e in absurd cc
      by (Some o) p z q = let h : false ≡ true = sym (ap (λ o. not (is_some o || is_some (ty.number_at k))) p) ∙ e in absurd cc

  module _ (entries : List NameEntry) (raw : EachVisit (RawVisit (record { ty = ty; entries = entries; params = parameters_of f; whole = function_visits ty f })) (function_visits ty f)) where
    -- an evaluated name that means nothing inside has the type of its object of file scope
    record OutsideType (k : ℕ) (at : Span) : Type 0 where
      of : CType
      type : ty.type_at k ≡ type_of of
      found : find (text_of ty.bytes at) entries ≡ Some (symbol.Object of)

    outside_type : (k : ℕ) (role : Role) (at : Span) → Occurs (at_expression k role (s.name at)) (function_visits ty f) → names_outside ty k ≡ true → OutsideType k at
    outside_type k role at occurs outside =
        let n = no_means k outside in
        let c : Ground = record { ty = ty; entries = entries; params = parameters_of f; whole = function_visits ty f } in
        let r : RawName c k role at (ty.number_at k) = each_at (RawVisit c) (at_expression k role (s.name at)) (function_visits ty f) raw occurs in
        let q : RawName c k role at None = subst (λ z. RawName c k role at z) n.1 r in
        by n.0 q.0
      where
        by : ty.means k ≡ None → Means (record { ty = ty; entries = entries; params = parameters_of f; whole = function_visits ty f }) k at → OutsideType k at
        by none (means_local o p t origin) = let h : None ≡ Some o = sym none ∙ p in absurd cc
        by none (means_outside t r p q type found o) = record { of = t; type = type; found = found }

    same_object : (a b : List ℕ) (t u : CType) → a ≡ b → find a entries ≡ Some (symbol.Object t) → find b entries ≡ Some (symbol.Object u) → type_of t ≡ type_of u
    same_object a b t u e p q = let h : Some (symbol.Object t) ≡ Some (symbol.Object u) = sym p ∙ ap (λ z. find z entries) e ∙ q in ap type_of cc

    origin_object : (o : ℕ) → Origin (record { ty = ty; entries = entries; params = parameters_of f; whole = function_visits ty f }) o → MeansObject ty (objects_of ty without f) o (target_at (setting_of ty without f) o)
    origin_object o (local_origin static at init occurs) = means_by o (local_object o static at init occurs)
    origin_object o (parameter_origin n count at tail init same among) = subst (λ z. MeansObject ty (objects_of ty without f) z (target_at (setting_of ty without f) z)) same (means_by n.number (parameter_object n count at tail init among))

    -- a name of file scope, by its first mention
    mention_meaning : (k : ℕ) (at : Span) (t : CType) (m : Mention) → ty.means k ≡ None → ty.type_at k ≡ type_of t → find (text_of ty.bytes at) entries ≡ Some (symbol.Object t) → m.name ≡ text_of ty.bytes at
        → mentioned_in (text_of ty.bytes at) (setting_of ty without f).mentions ≡ Some m.node → MentionedAt ty (function_visits ty f) m → Meaning k at
    mention_meaning k at t m none type found named is w =
        let ms = (setting_of ty without f).mentions in
        let there = outside_type m.node w.role w.at w.occurs w.outside in
        let text : text_of ty.bytes at ≡ text_of ty.bytes w.at = sym named ∙ w.name in
        let one : type_of t ≡ type_of there.of = same_object (text_of ty.bytes at) (text_of ty.bytes w.at) t there.of text found there.found in
        let same : ty.type_at k ≡ ty.type_at m.node = type ∙ one ∙ sym there.type in
        let object = mention_object m.node w.role w.at w.occurs w.outside (ap is_some (no_means m.node w.outside).1) (ap (λ z. mentioned_in z ms) (sym text) ∙ is) in
        meaning_at k m.node at (ap (λ z. unwrap_or z (unwrap_or (mentioned_in (text_of ty.bytes at) ms) k)) none ∙ ap (λ z. unwrap_or z k) is) (inl same) (means_by m.node (λ no. object))

    meaning_of : (k : ℕ) (at : Span) → Means (record { ty = ty; entries = entries; params = parameters_of f; whole = function_visits ty f }) k at → Meaning k at
    meaning_of k at (means_local o p type origin) = meaning_at k o at (ap (λ z. unwrap_or z (unwrap_or (mentioned_in (text_of ty.bytes at) (setting_of ty without f).mentions) k)) p) type (origin_object o origin)
    meaning_of k at (means_outside t role p q type found occurs) =
        let ms = (setting_of ty without f).mentions in
        let name = text_of ty.bytes at in
        let m : Mention = record { name = name; node = k } in
        let i : IsIn m (visit_mentions ty (at_expression k role (s.name at))) = subst (λ b. IsIn m (if b then m ∷ [] else [])) (sym (outside_of k p q)) (inl refl) in
        let r = first_mention name ms m (in_collected (visit_mentions ty) m (at_expression k role (s.name at)) (function_visits ty f) occurs i) refl in
        let from = from_visit (visit_mentions ty) r.mention (function_visits ty f) r.among in
        mention_meaning k at t r.mention p type found r.same r.is (mention_visit ty (function_visits ty f) r.mention from.visit from.occurs from.gives)

    -- ---- places by name

    not_array : (t : TypeTree) → (is_scalar t || is_struct t) ≡ true → is_array t ≡ false
    not_array void_type e = refl
    not_array (integer_type k) e = refl
    not_array (pointer_type t) e = refl
    not_array (array_type t count) e = absurd cc
    not_array (struct_type id) e = refl
    not_array (function_type x) e = refl

    exact : (t u : TypeTree) → (is_scalar t || is_struct t) ≡ true → HasTypeOf t u → t ≡ u
    exact t u part (inl e) = e
    exact t u part (inr arrays) = let h : false ≡ true = sym (ap (λ b. b && is_array u) (not_array t part)) ∙ arrays in absurd cc

    mutual
      place_agrees : (e : ExprTree) → RawPlace (record { ty = ty; entries = entries; params = parameters_of f; whole = function_visits ty f }) e → PlaceAgrees (setting_of ty without f) (objects_of ty without f) e
      place_agrees (s.expression n x) r = place_form n.number x r

      place_form : (k : ℕ) (x : ExprFormTree) → RawPlaceForm (record { ty = ty; entries = entries; params = parameters_of f; whole = function_visits ty f }) k x → FormAgrees (setting_of ty without f) (objects_of ty without f) k x
      place_form k (s.name at) r = let m = meaning_of k at r.1 in record { type = exact (ty.type_at k) (ty.type_at (object_named (setting_of ty without f) k at)) r.0 m.type; means = m.means }
      place_form k (s.number at) r = tt
      place_form k (s.character at) r = tt
      place_form k (s.text parts) r = tt
      place_form k (s.paren e) r = (r.0, place_agrees e r.1)
      place_form k (s.index a b) r = tt
      place_form k (s.call e es) r = tt
      place_form k (s.dot e at) r = (r.0, r.1, place_agrees e r.2)
      place_form k (s.arrow e at) r = tt
      place_form k (s.step op e) r = tt
      place_form k (s.unary op e) r = tt
      place_form k (s.size_expression e) r = tt
      place_form k (s.size_name t) r = tt
      place_form k (s.cast t e) r = tt
      place_form k (s.binary op a b) r = tt
      place_form k (s.choice a b d) r = tt
      place_form k (s.assign op a b) r = tt

    -- ---- visits

    name_typed : (k : ℕ) (role : Role) (at : Span) (z : Option ℤ) → RawName (record { ty = ty; entries = entries; params = parameters_of f; whole = function_visits ty f }) k role at z
        → IsTypedName (setting_of ty without f) (objects_of ty without f) k role (object_named (setting_of ty without f) k at) z
    name_typed k role at (Some z) r = tt
    name_typed k role at None r = let m = meaning_of k at r.0 in (record { type = m.type; means = m.means }, r.1)

    form_typed : (k : ℕ) (role : Role) (x : ExprFormTree) → RawForm (record { ty = ty; entries = entries; params = parameters_of f; whole = function_visits ty f }) k role x → IsTypedForm (setting_of ty without f) (objects_of ty without f) k role x
    form_typed k role (s.name at) r = name_typed k role at (ty.number_at k) r
    form_typed k role (s.number at) r = tt
    form_typed k role (s.character at) r = tt
    form_typed k role (s.text parts) r = r
    form_typed k role (s.paren e) r = tt
    form_typed k role (s.index a b) r = r
    form_typed k role (s.call e es) r = r
    form_typed k role (s.dot e at) r = r
    form_typed k role (s.arrow e at) r = r
    form_typed k role (s.step op e) r = (r.0, place_agrees e r.1)
    form_typed k role (s.unary op e) r = r
    form_typed k role (s.size_expression e) r = tt
    form_typed k role (s.size_name t) r = tt
    form_typed k role (s.cast t e) r = tt
    form_typed k role (s.binary op a b) r = tt
    form_typed k role (s.choice a b d) r = tt
    form_typed k role (s.assign op a b) r = (r.0, place_agrees a r.1)

    visit_typed : (x : Visit) → RawVisit (record { ty = ty; entries = entries; params = parameters_of f; whole = function_visits ty f }) x → IsTypedVisit (setting_of ty without f) (objects_of ty without f) x
    visit_typed (at_expression k role x) r = form_typed k role x r
    visit_typed (at_declarator k static at init) r = r
    visit_typed (at_statement k arm x) r = tt
    visit_typed (at_section k ls) r = tt

    pub visits_typed : EachVisit (IsTypedVisit (setting_of ty without f) (objects_of ty without f)) (function_visits ty f)
    visits_typed = each_mapped (RawVisit (record { ty = ty; entries = entries; params = parameters_of f; whole = function_visits ty f })) (IsTypedVisit (setting_of ty without f) (objects_of ty without f)) (function_visits ty f) visit_typed raw
