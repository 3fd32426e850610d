-- What runs of a function rest on, from what is asked of the function and of a start.
use Rattle.std.proofs.Common.{◌≡◌, ℕ, ◌+◌, ◌-◌, ◌^◌, ◌<◌, ◌≤◌, ◌==◌, Bool, true, false, not, ◌&&◌, ◌||◌, List, [], ◌∷◌, ◌++◌, length, refl, sym, ap, ◌∙◌, subst, inl, inr, arith, get_or}
use Rattle.std.proofs.lemmas.Grind.{common_steps}
use Rattle.std.specs.Prelude.{filter, map, nat_le, nat_lt, unwrap_or}
use Rattle.std.specs.Option.{is_some}
use Rattle.std.specs.List.{list_all}
use Rattle.stk_ctype.specs.Kinds.{bytes_of}
use Rattle.stk_tree.specs.Syntax.{DeclrTree, FunctionTree}
use Rattle.stk_tree.specs.Syntax as s
use Rattle.stk_numbers.specs.declared.conditions.Kinds.{Kinds}
use Rattle.stk_type_rules.specs.Types.{is_scalar, is_struct}
use Rattle.stk_meaning.specs.Typings.{Typing, number_kind, declarator_node, is_among, object_size}
use Rattle.stk_meaning.specs.Visits.{collected}
use Rattle.stk_meaning.specs.Keys.{address_key, KeyInfo, visit_keys, parameter_info, memory_info, register_parameters, memory_parameters, fits_register, parameters_of, function_visits, Object, first_setting, keys_of, objects_of, kept_of, setting_of}
use Rattle.stk_meaning.specs.Executions.{ExecutionStart}
use Rattle.stk_meaning.specs.Maps.{lies_in_memory, shares_byte, stands_apart, IsValidStart}
use Rattle.stk_run_laws.specs.Visits.{IsIn, Ascends, nodes_of}
use Rattle.stk_run_laws.specs.Held.{IsClear}
use Rattle.stk_run_laws.proofs.Nodes.{in_right, in_either, ascends_left, ascends_right, ascends_apart}
use Rattle.stk_run_laws.specs.TypedTree.{IsTypedTree}
use Rattle.stk_run_laws.proofs.Maps.{Ground, held, IsListed, IsGround}
use Rattle.stk_run_laws.proofs.Twins.{keys_same}
use Rattle.stk_run_laws.proofs.KeyLists.{in_map, in_image, in_filter, IsKeyOf, SizeWell, keys_well, object_nodes, nodes_append, object_key}
use Rattle.stk_run_laws.proofs.Objects.{ascends_append, filter_ascends, take_ascends, in_take, there_in, ascends_apart_at, among_of, visited_nodes, parameter_nodes, memory_nodes}

pub all_at : {A : Type 0} (p : A → Bool) (x : A) (xs : List A) → list_all p xs ≡ true → IsIn x xs → p x ≡ true
all_at p x [] h i = absurd i
all_at p x (y ∷ ys) h (inl e) = ap p e ∙ both (p y) (list_all p ys) h
  where
    both : (a b : Bool) → a && b ≡ true → a ≡ true
    both true b h = refl
    both false b h = h
all_at p x (y ∷ ys) h (inr i) = all_at p x ys (both (p y) (list_all p ys) h) i
  where
    both : (a b : Bool) → a && b ≡ true → b ≡ true
    both true b h = h
    both false b h = absurd cc

le_of : (a b : ℕ) → nat_le a b ≡ true → a ≤ b
le_of a b h = grind (arith, common_steps)

lt_true : (a b : ℕ) → a < b → nat_lt a b ≡ true
lt_true a b h = grind (arith, common_steps)

and_first : (a b : Bool) → a && b ≡ true → a ≡ true
and_first true b h = refl
and_first false b h = h

and_second : (a b : Bool) → a && b ≡ true → b ≡ true
and_second true b h = h
and_second false b h = absurd cc

-- an object lies in memory
lies_last : (a : ℕ → ℕ) (o : Object) → lies_in_memory a o ≡ true → a o.node + o.size ≤ 2 ^ 64 - 1
lies_last a o h = le_of (a o.node + o.size) (2 ^ 64 - 1) (and_second (nat_le 1 (a o.node)) (nat_le (a o.node + o.size) (2 ^ 64 - 1)) h)

-- objects that share no byte
no_byte : (a : ℕ → ℕ) (o p : Object) → shares_byte a o p ≡ false → (b : ℕ) → a p.node ≤ b → b < a p.node + p.size → a o.node ≤ b → b < a o.node + o.size → ⊥
no_byte a o p h b from to first last =
    let one : nat_lt (a o.node) (a p.node + p.size) ≡ true = lt_true (a o.node) (a p.node + p.size) (omega arith) in
    let two : nat_lt (a p.node) (a o.node + o.size) ≡ true = lt_true (a p.node) (a o.node + o.size) (omega arith) in
    clash (nat_lt (a o.node) (a p.node + p.size)) (nat_lt (a p.node) (a o.node + o.size)) one two h
  where
    clash : (x y : Bool) → x ≡ true → y ≡ true → x && y ≡ false → ⊥
    clash true true p q r = cc
    clash true false p q r = cc
    clash false y p q r = cc

-- what stands apart of an object shares no byte with it
apart_of : (a : ℕ → ℕ) (o p : Object) (all : List Object) → stands_apart a all o ≡ true → IsIn p all → p.is_plain ≡ true → (o.node ≡ p.node → ⊥) → shares_byte a o p ≡ false
apart_of a o p all h i plain other = by (o.node == p.node) refl p.is_plain plain (shares_byte a o p) (all_at (λ p. o.node == p.node || (not p.is_plain || not (shares_byte a o p))) p all h i)
  where
    by : (x : Bool) → o.node == p.node ≡ x → (y : Bool) → y ≡ true → (z : Bool) → x || (not y || not z) ≡ true → z ≡ false
    by true e y q z r = absurd (other (grind (arith, common_steps)))
    by false e true q true r = absurd cc
    by false e true q false r = refl
    by false e false q z r = absurd cc

-- what runs rest on
abbrev pub ground_of : Typing → Kinds → FunctionTree → ExecutionStart → Ground
ground_of ty without f start = record { setting = setting_of ty without f; keys = keys_of ty without f; objects = objects_of ty without f; addresses = start.addresses }

module _ (ty : Typing) (without : Kinds) (f : FunctionTree) (h : IsTypedTree ty without f) where
  -- ---- keys

  pub body_listed : (x : KeyInfo) → IsIn x (collected (visit_keys (setting_of ty without f)) (function_visits ty f)) → IsIn x (keys_of ty without f)
  body_listed x i =
      in_right x (map (parameter_info ty) (register_parameters ty f)) (map (memory_info ty) (memory_parameters ty f) ++ collected (visit_keys (first_setting ty without f)) (function_visits ty f))
      (in_right x (map (memory_info ty) (memory_parameters ty f)) (collected (visit_keys (first_setting ty without f)) (function_visits ty f))
      (subst (IsIn x) (sym (keys_same (first_setting ty without f) (kept_of ty without f) (function_visits ty f))) i))

  parameter_well : (d : DeclrTree) → IsKeyOf ty (parameter_info ty d)
  parameter_well (s.declarator n count at tail init) = record { kind = refl; size = tt }

  memory_well : (d : DeclrTree) → IsKeyOf ty (memory_info ty d)
  memory_well (s.declarator n count at tail init) = record { kind = refl; size = refl }

  pub all_well : (x : KeyInfo) → IsIn x (keys_of ty without f) → IsKeyOf ty x
  all_well x i =
      elim (in_either x (map (parameter_info ty) (register_parameters ty f)) (map (memory_info ty) (memory_parameters ty f) ++ collected (visit_keys (first_setting ty without f)) (function_visits ty f)) i) [
        | inl j ↦ let a = in_image (parameter_info ty) x (register_parameters ty f) j in subst (IsKeyOf ty) (sym a.is) (parameter_well a.of)
        | inr j ↦ elim (in_either x (map (memory_info ty) (memory_parameters ty f)) (collected (visit_keys (first_setting ty without f)) (function_visits ty f)) j) [
          | inl l ↦ let a = in_image (memory_info ty) x (memory_parameters ty f) l in subst (IsKeyOf ty) (sym a.is) (memory_well a.of)
          | inr l ↦ keys_well (setting_of ty without f) (objects_of ty without f) (function_visits ty f) h.visits x (subst (IsIn x) (keys_same (first_setting ty without f) (kept_of ty without f) (function_visits ty f)) l)
        ]
      ]

  -- ---- memory objects

  pub listed_object : (o : Object) → IsIn o (objects_of ty without f) → IsListed (keys_of ty without f) (address_key o.node)
  listed_object o i = let a = object_key ty (keys_of ty without f) o i in record { info = a.info; among = a.among; is = a.key }

  pub object_bytes : (o : Object) → IsIn o (objects_of ty without f) → o.size ≡ object_size ty (ty.type_at o.node)
  object_bytes o i =
      let a = object_key ty (keys_of ty without f) o i in
      ap (λ (z : Object). z.size) a.is ∙ subst (λ key. SizeWell ty key a.info.size) a.key (all_well a.info a.among).size

  -- an object whose number is a scalar's
  record IsScalar (o : Object) : Type 0 where
    scalar : is_scalar (ty.type_at o.node) ≡ true
    plain : o.is_plain ≡ true
    size : o.size ≡ bytes_of (number_kind (ty.type_at o.node))

  plain_of : (x y z : Bool) → x && y ≡ true → x && (y || z) ≡ true
  plain_of true true z h = refl
  plain_of true false z h = absurd cc
  plain_of false y z h = h

  scalar_object : (o : Object) → IsIn o (objects_of ty without f) → o.is_number ≡ true → IsScalar o
  scalar_object o i number =
      let a = object_key ty (keys_of ty without f) o i in
      let t = ty.type_at o.node in
      let both : is_some a.info.name && is_scalar t ≡ true = sym (ap (λ (z : Object). z.is_number) a.is) ∙ number in
      let scalar : is_scalar t ≡ true = and_second (is_some a.info.name) (is_scalar t) both in
      record {
        scalar = scalar;
        plain = ap (λ (z : Object). z.is_plain) a.is ∙ plain_of (is_some a.info.name) (is_scalar t) (is_struct t) both;
        size = object_bytes o i ∙ ap (λ z. unwrap_or z 1) (h.sizes t scalar);
      }

  -- their nodes ascend
  object_nodes_ascend : Ascends (map (λ (o : Object). o.node) (objects_of ty without f))
  object_nodes_ascend =
      let g = first_setting ty without f in
      let ps = map declarator_node (parameters_of f) in
      let ns = nodes_of (function_visits ty f) in
      let v = visited_nodes g (function_visits ty f) (ascends_right ps ns h.numbered) in
      let kv = object_nodes ty (collected (visit_keys g) (function_visits ty f)) in
      let mem = map declarator_node (memory_parameters ty f) in
      let whole : object_nodes ty (keys_of ty without f) ≡ mem ++ kv =
      nodes_append ty (map (parameter_info ty) (register_parameters ty f)) (map (memory_info ty) (memory_parameters ty f) ++ collected (visit_keys g) (function_visits ty f))
      ∙ ap (λ z. z ++ object_nodes ty (map (memory_info ty) (memory_parameters ty f) ++ collected (visit_keys g) (function_visits ty f))) (parameter_nodes ty (register_parameters ty f))
      ∙ nodes_append ty (map (memory_info ty) (memory_parameters ty f)) (collected (visit_keys g) (function_visits ty f))
      ∙ ap (λ z. z ++ kv) (memory_nodes ty (memory_parameters ty f)) in
      subst Ascends (sym whole)
      (ascends_append mem kv (filter_ascends declarator_node (λ d. not (fits_register ty (declarator_node d))) (parameters_of f) (ascends_left ps ns h.numbered)) v.ascends
      (λ i j p q. ascends_apart ps ns i j h.numbered (filtered i p) (v.within j q)))
    where
      filtered : (i : ℕ) → IsIn i (map declarator_node (memory_parameters ty f)) → IsIn i (map declarator_node (parameters_of f))
      filtered i p =
          let a = in_image declarator_node i (memory_parameters ty f) p in
          subst (λ z. IsIn z (map declarator_node (parameters_of f))) (sym a.is) (in_map declarator_node a.of (parameters_of f) (in_filter (λ d. not (fits_register ty (declarator_node d))) a.of (parameters_of f) a.among).0)

  kept_ascend : Ascends (kept_of ty without f)
  kept_ascend = take_ascends 32 (map (λ (o : Object). o.node) (filter (λ o. o.is_number) (objects_of ty without f))) (filter_ascends (λ (o : Object). o.node) (λ o. o.is_number) (objects_of ty without f) object_nodes_ascend)

  -- the object of a kept node
  record IsKeptObject (k : ℕ) : Type 0 where
    object : Object
    among : IsIn object (objects_of ty without f)
    node : object.node ≡ k
    number : object.is_number ≡ true

  kept_object : (k : ℕ) → IsIn k (kept_of ty without f) → IsKeptObject k
  kept_object k i =
      let a = in_image (λ (o : Object). o.node) k (filter (λ o. o.is_number) (objects_of ty without f)) (in_take 32 k (map (λ (o : Object). o.node) (filter (λ o. o.is_number) (objects_of ty without f))) i) in
      let b = in_filter (λ (o : Object). o.is_number) a.of (objects_of ty without f) a.among in
      record { object = a.of; among = b.0; node = sym a.is; number = b.1 }

  -- ---- where they lie

  module _ (start : ExecutionStart) (v : IsValidStart ty without f start) where
    valid_at : (o : Object) → IsIn o (objects_of ty without f) → lies_in_memory start.addresses o && (not (is_among o.node (kept_of ty without f)) || stands_apart start.addresses (objects_of ty without f) o) ≡ true
    valid_at o i = all_at (λ o. lies_in_memory start.addresses o && (not (is_among o.node (kept_of ty without f)) || stands_apart start.addresses (objects_of ty without f) o)) o (objects_of ty without f) v.apart i

    pub object_last : (o : Object) → IsIn o (objects_of ty without f) → start.addresses o.node + o.size ≤ 2 ^ 64 - 1
    object_last o i = lies_last start.addresses o (and_first (lies_in_memory start.addresses o) _ (valid_at o i))

    kept_apart : (o : Object) → IsIn o (objects_of ty without f) → IsIn o.node (kept_of ty without f) → stands_apart start.addresses (objects_of ty without f) o ≡ true
    kept_apart o i k = by (is_among o.node (kept_of ty without f)) (among_of o.node (kept_of ty without f) k) (and_second (lies_in_memory start.addresses o) _ (valid_at o i))
      where
        by : (b : Bool) → b ≡ true → not b || stands_apart start.addresses (objects_of ty without f) o ≡ true → stands_apart start.addresses (objects_of ty without f) o ≡ true
        by true e r = r
        by false e r = absurd cc

    -- a part of an object that has a name and a scalar or struct type, beside a kept object
    part_clear : (q : ℕ) (p : Object) (first size : ℕ) → q < length (kept_of ty without f) → IsIn p (objects_of ty without f) → p.is_plain ≡ true → (get_or (kept_of ty without f) q 0 ≡ p.node → ⊥) → start.addresses p.node ≤ first → first + size ≤ start.addresses p.node + p.size → IsClear (held (ground_of ty without f start)) q first size
    part_clear q p first size l i plain other from to =
        let k = get_or (kept_of ty without f) q 0 in
        let there = there_in (kept_of ty without f) q l in
        let o = kept_object k there in
        let scalar = scalar_object o.object o.among o.number in
        let apart = apart_of start.addresses o.object p (objects_of ty without f) (kept_apart o.object o.among (subst (λ z. IsIn z (kept_of ty without f)) (sym o.node) there)) i plain (λ e. other (sym o.node ∙ e)) in
        let size_is : o.object.size ≡ bytes_of (number_kind (ty.type_at k)) = subst (λ z. o.object.size ≡ bytes_of (number_kind (ty.type_at z))) o.node scalar.size in
        let at : start.addresses o.object.node ≡ start.addresses k = ap start.addresses o.node in
        record { by = λ b r s t u. no_byte start.addresses o.object p apart b (omega arith) (omega arith) (omega arith) (omega arith) }

    pub is_ground : IsGround (ground_of ty without f start)
    is_ground = record {
      are_held = record {
        last = λ q l.
            let k = get_or (kept_of ty without f) q 0 in
            let o = kept_object k (there_in (kept_of ty without f) q l) in
            let scalar = scalar_object o.object o.among o.number in
            let size_is : o.object.size ≡ bytes_of (number_kind (ty.type_at k)) = subst (λ z. o.object.size ≡ bytes_of (number_kind (ty.type_at z))) o.node scalar.size in
            let at : start.addresses o.object.node ≡ start.addresses k = ap start.addresses o.node in
            let last = object_last o.object o.among in
            omega arith;
        apart = λ q p l m other.
            let k = get_or (kept_of ty without f) p 0 in
            let o = kept_object k (there_in (kept_of ty without f) p m) in
            let scalar = scalar_object o.object o.among o.number in
            let size_is : o.object.size ≡ bytes_of (number_kind (ty.type_at k)) = subst (λ z. o.object.size ≡ bytes_of (number_kind (ty.type_at z))) o.node scalar.size in
            let at : start.addresses o.object.node ≡ start.addresses k = ap start.addresses o.node in
            part_clear q o.object (start.addresses k) (bytes_of (number_kind (ty.type_at k))) l o.among scalar.plain (λ e. other (ascends_apart_at (kept_of ty without f) q p kept_ascend l m (e ∙ o.node))) (omega arith) (omega arith);
      };
      lies = λ o offset size p.
          let last = object_last p.object p.among in
          let at : start.addresses p.object.node ≡ start.addresses o = ap start.addresses p.node in
          let within : offset + size ≤ p.object.size = p.within in
          omega arith;
      clear = λ o offset size q p l other.
          let at : start.addresses p.object.node ≡ start.addresses o = ap start.addresses p.node in
          let within : offset + size ≤ p.object.size = p.within in
          part_clear q p.object (start.addresses o + offset) size l p.among p.plain (λ e. other (e ∙ p.node)) (omega arith) (omega arith);
    }
