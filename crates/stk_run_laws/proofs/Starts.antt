-- Maps for a start of an execution, and the numbers of a map.
use Rattle.std.proofs.Common.{◌≡◌, ℕ, zero, suc, ◌+◌, ◌-◌, ◌^◌, ◌<◌, ◌==◌, Bool, true, false, not, ◌&&◌, ◌||◌, List, [], ◌∷◌, ℤ, pos, refl, sym, ap, ◌∙◌, subst, inl, inr, arith, get_or, set}
use Rattle.std.proofs.Math.Path.{fun_ext}
use Rattle.std.proofs.Math.Nat.{mod-eq_of_lt}
use Rattle.std.specs.Prelude.{if◌then◌else◌, map, replicate, nat_le, nat_lt}
use Rattle.std.specs.List.{list_all}
use Rattle.stk_ctype.specs.declared.kind.IntKind.{IntKind}
use Rattle.stk_ctype.specs.declared.kind.IntKind.TheVariants as kind
use Rattle.stk_tree.specs.Syntax.{DeclrTree, FunctionTree}
use Rattle.stk_tree.specs.Syntax as s
use Rattle.stk_numbers.specs.declared.conditions.Kinds.{Kinds}
use Rattle.stk_numbers.specs.Kinds.{fits}
use Rattle.stk_numbers.proofs.Wrapping.{wrap_in_range}
use Rattle.stk_meaning.specs.Typings.{Typing, number_kind, declarator_node, is_among}
use Rattle.stk_meaning.specs.Operations.{to_address}
use Rattle.stk_meaning.specs.Keys.{Key, parameter_key, address_key, unset_key, load_key, call_key, loop_key, KeyInfo, parameter_info, register_parameters, Object, keys_of, objects_of, kept_of}
use Rattle.stk_meaning.specs.Paths.{InputMap, same_key, number_under, with_parameters}
use Rattle.stk_meaning.specs.Executions.{ExecutionStart}
use Rattle.stk_meaning.specs.Maps.{lies_in_memory, shares_byte, stands_apart, are_valid, AreInRange, addresses_in, IsValid, IsValidStart}
use Rattle.stk_run_laws.specs.Visits.{IsIn}
use Rattle.stk_run_laws.proofs.Nodes.{in_left}
use Rattle.stk_run_laws.specs.TypedTree.{IsTypedTree}
use Rattle.stk_run_laws.proofs.Maps.{Ground, kind_at, IsListed, Covers, same_is, key_itself}
use Rattle.stk_run_laws.proofs.Same.{Fit, fit_set}
use Rattle.stk_run_laws.proofs.KeyLists.{in_map, in_image, IsKeyOf}
use Rattle.stk_run_laws.proofs.Objects.{among_of, among_in}
use Rattle.stk_run_laws.proofs.Grounds.{ground_of, all_at, all_well, listed_object, object_last}

zero_fits : (k : IntKind) → fits k (pos 0) ≡ true
zero_fits kind.Bool = refl
zero_fits kind.Char = refl
zero_fits kind.SChar = refl
zero_fits kind.UChar = refl
zero_fits kind.Short = refl
zero_fits kind.UShort = refl
zero_fits kind.Int = refl
zero_fits kind.UInt = refl
zero_fits kind.Long = refl
zero_fits kind.ULong = refl
zero_fits kind.LLong = refl
zero_fits kind.ULLong = refl

-- an address is in the range of its kind
address_fits : (n : ℕ) → n < 2 ^ 64 → fits kind.ULong (pos n) ≡ true
address_fits n h = subst (λ z. fits kind.ULong (pos z) ≡ true) (mod-eq_of_lt h) (wrap_in_range kind.ULong (pos n))

-- ---- the numbers of a map

abbrev pub numbers_of : InputMap → List KeyInfo → List ℤ
numbers_of m ks = map (λ (x : KeyInfo). m x.key) ks

under_from : (m : InputMap) (ks : List KeyInfo) (key : Key) → (((x : KeyInfo) → IsIn x ks → x.key ≡ key → ⊥) → m key ≡ pos 0) → number_under ks (numbers_of m ks) key ≡ m key
under_from m [] key h = sym (h (λ x i e. i))
under_from m (x ∷ ks) key h = by (same_key x.key key) refl (λ g. under_from m ks key g)
  where
    by : (b : Bool) → same_key x.key key ≡ b → ((((y : KeyInfo) → IsIn y ks → y.key ≡ key → ⊥) → m key ≡ pos 0) → number_under ks (numbers_of m ks) key ≡ m key) → (if b then m x.key else number_under ks (numbers_of m ks) key) ≡ m key
    by true e more = ap m (same_is x.key key e)
    by false e more = more (λ g. h (λ y i s. elim i [ inl j ↦ differs e (ap (λ (z : KeyInfo). z.key) (sym j) ∙ s) | inr j ↦ g y j s ]))
      where
        differs : same_key x.key key ≡ false → x.key ≡ key → ⊥
        differs e s = let t : same_key x.key key ≡ true = ap (λ z. same_key x.key z) (sym s) ∙ key_itself x.key in absurd cc

-- looked up under the keys, the numbers of a map give the map
pub under_is : (c : Ground) (m : InputMap) → Covers c m → number_under c.keys (numbers_of m c.keys) ≡ m
under_is c m h = fun_ext (λ key. under_from m c.keys key (λ g. h.unlisted key (λ l. g l.info l.among l.is)))

pub in_range_of : (ty : Typing) (m : InputMap) (ks : List KeyInfo) → ((key : Key) → fits (kind_at ty key) (m key) ≡ true) → ((x : KeyInfo) → IsIn x ks → IsKeyOf ty x) → AreInRange ks (numbers_of m ks)
in_range_of ty m [] h w = tt
in_range_of ty m (x ∷ ks) h w = (ap (λ k. fits k (m x.key)) (w x (inl refl)).kind ∙ h x.key, in_range_of ty m ks h (λ y i. w y (inr i)))

-- ---- addresses

all_same : {A : Type 0} (p q : A → Bool) (xs : List A) → ((x : A) → IsIn x xs → p x ≡ q x) → list_all p xs ≡ list_all q xs
all_same p q [] h = refl
all_same p q (x ∷ xs) h = ap (λ b. b && list_all p xs) (h x (inl refl)) ∙ ap (λ b. q x && b) (all_same p q xs (λ y i. h y (inr i)))

shares_same : (a b : ℕ → ℕ) (o p : Object) → a o.node ≡ b o.node → a p.node ≡ b p.node → shares_byte a o p ≡ shares_byte b o p
shares_same a b o p e d =
    ap (λ z. nat_lt z (a p.node + p.size) && nat_lt (a p.node) (z + o.size)) e ∙ ap (λ z. nat_lt (b o.node) (z + p.size) && nat_lt z (b o.node + o.size)) d

apart_same : (a b : ℕ → ℕ) (all : List Object) → ((o : Object) → IsIn o all → a o.node ≡ b o.node) → (o : Object) → IsIn o all → stands_apart a all o ≡ stands_apart b all o
apart_same a b all h o i = all_same (λ p. o.node == p.node || (not p.is_plain || not (shares_byte a o p))) (λ p. o.node == p.node || (not p.is_plain || not (shares_byte b o p))) all (λ p j. ap (λ z. o.node == p.node || (not p.is_plain || not z)) (shares_same a b o p (h o i) (h p j)))

pub valid_same : (kept : List ℕ) (all : List Object) (a b : ℕ → ℕ) → ((o : Object) → IsIn o all → a o.node ≡ b o.node) → are_valid kept all a ≡ are_valid kept all b
valid_same kept all a b h =
    all_same (λ o. lies_in_memory a o && (not (is_among o.node kept) || stands_apart a all o)) (λ o. lies_in_memory b o && (not (is_among o.node kept) || stands_apart b all o)) all
    (λ o i. ap (λ z. (nat_le 1 z && nat_le (z + o.size) (2 ^ 64 - 1)) && (not (is_among o.node kept) || stands_apart a all o)) (h o i)
    ∙ ap (λ z. lies_in_memory b o && (not (is_among o.node kept) || z)) (apart_same a b all h o i))

-- ---- registers at the start

pub parameters_same : (ks : List ℕ) (x y : ℕ → ℤ) (r : List ℤ) → ((k : ℕ) → IsIn k ks → x k ≡ y k) → with_parameters ks x r ≡ with_parameters ks y r
parameters_same [] x y r h = refl
parameters_same (k ∷ ks) x y r h = ap (λ z. with_parameters ks x (set r k z)) (h k (inl refl)) ∙ parameters_same ks x y (set r k (y k)) (λ j i. h j (inr i))

none_set : (n i : ℕ) → get_or (replicate n (pos 0)) i (pos 0) ≡ pos 0
none_set zero i = refl
none_set (suc n) zero = refl
none_set (suc n) (suc i) = none_set n i

pub fit_zeros : (c : Ground) (n : ℕ) → Fit c (replicate n (pos 0))
fit_zeros c n = record { at = λ i. ap (fits (number_kind (c.setting.typing.type_at i))) (none_set n i) ∙ zero_fits (number_kind (c.setting.typing.type_at i)) }

pub fit_parameters : (c : Ground) (ks : List ℕ) (x : ℕ → ℤ) (r : List ℤ) → ((k : ℕ) → IsIn k ks → fits (number_kind (c.setting.typing.type_at k)) (x k) ≡ true) → Fit c r → Fit c (with_parameters ks x r)
fit_parameters c [] x r h f = f
fit_parameters c (k ∷ ks) x r h f = fit_parameters c ks x (set r k (x k)) (λ j i. h j (inr i)) (fit_set c r k (x k) (h k (inl refl)) f)

-- ---- the map of a start

module _ (ty : Typing) (without : Kinds) (f : FunctionTree) (h : IsTypedTree ty without f) (start : ExecutionStart) (v : IsValidStart ty without f start) where
  abbrev pub parameters : List ℕ
  parameters = map declarator_node (register_parameters ty f)

  abbrev pub nodes : List ℕ
  nodes = map (λ (o : Object). o.node) (objects_of ty without f)

  -- its parameters and addresses, and 0 for all other keys
  abbrev pub base : InputMap
  base (parameter_key k) = if is_among k (map declarator_node (register_parameters ty f)) then start.numbers k else pos 0
  base (address_key k) = if is_among k (map (λ (o : Object). o.node) (objects_of ty without f)) then pos (start.addresses k) else pos 0
  base (unset_key k) = pos 0
  base (load_key k) = pos 0
  base (call_key k) = pos 0
  base (loop_key k j) = pos 0

  parameter_fits : (k : ℕ) (b : Bool) → is_among k parameters ≡ b → fits (number_kind (ty.type_at k)) (if b then start.numbers k else pos 0) ≡ true
  parameter_fits k true e = all_at (λ k. fits (number_kind (ty.type_at k)) (start.numbers k)) k parameters v.in_range (among_in k parameters e)
  parameter_fits k false e = zero_fits (number_kind (ty.type_at k))

  below : (k : ℕ) → is_among k nodes ≡ true → start.addresses k < 2 ^ 64
  below k e =
      let a = in_image (λ (o : Object). o.node) k (objects_of ty without f) (among_in k nodes e) in
      let last = object_last ty without f h start v a.of a.among in
      let same : start.addresses k ≡ start.addresses a.of.node = ap start.addresses a.is in
      omega arith

  object_fits : (k : ℕ) (b : Bool) → is_among k nodes ≡ b → fits kind.ULong (if b then pos (start.addresses k) else pos 0) ≡ true
  object_fits k true e = address_fits (start.addresses k) (below k e)
  object_fits k false e = refl

  base_fits : (key : Key) → fits (kind_at ty key) (base key) ≡ true
  base_fits (parameter_key k) = parameter_fits k (is_among k parameters) refl
  base_fits (address_key k) = object_fits k (is_among k nodes) refl
  base_fits (unset_key k) = zero_fits (number_kind (ty.type_at k))
  base_fits (load_key k) = zero_fits (number_kind (ty.type_at k))
  base_fits (call_key k) = zero_fits (number_kind (ty.type_at k))
  base_fits (loop_key k j) = zero_fits (number_kind (ty.type_at j))

  parameter_listed : (d : DeclrTree) → IsIn d (register_parameters ty f) → IsListed (keys_of ty without f) (parameter_key (declarator_node d))
  parameter_listed (s.declarator n count at tail init) i =
      record { info = parameter_info ty (s.declarator n count at tail init); among = in_left _ (map (parameter_info ty) (register_parameters ty f)) _ (in_map (parameter_info ty) (s.declarator n count at tail init) (register_parameters ty f) i); is = refl }

  unlisted_parameter : (k : ℕ) (b : Bool) → is_among k parameters ≡ b → (IsListed (keys_of ty without f) (parameter_key k) → ⊥) → (if b then start.numbers k else pos 0) ≡ pos 0
  unlisted_parameter k true e g =
      let a = in_image declarator_node k (register_parameters ty f) (among_in k parameters e) in
      absurd (g (subst (λ z. IsListed (keys_of ty without f) (parameter_key z)) (sym a.is) (parameter_listed a.of a.among)))
  unlisted_parameter k false e g = refl

  unlisted_address : (k : ℕ) (b : Bool) → is_among k nodes ≡ b → (IsListed (keys_of ty without f) (address_key k) → ⊥) → (if b then pos (start.addresses k) else pos 0) ≡ pos 0
  unlisted_address k true e g =
      let a = in_image (λ (o : Object). o.node) k (objects_of ty without f) (among_in k nodes e) in
      absurd (g (subst (λ z. IsListed (keys_of ty without f) (address_key z)) (sym a.is) (listed_object ty without f h a.of a.among)))
  unlisted_address k false e g = refl

  base_unlisted : (key : Key) → (IsListed (keys_of ty without f) key → ⊥) → base key ≡ pos 0
  base_unlisted (parameter_key k) g = unlisted_parameter k (is_among k parameters) refl g
  base_unlisted (address_key k) g = unlisted_address k (is_among k nodes) refl g
  base_unlisted (unset_key k) g = refl
  base_unlisted (load_key k) g = refl
  base_unlisted (call_key k) g = refl
  base_unlisted (loop_key k j) g = refl

  address_is : (k : ℕ) (b : Bool) → b ≡ true → is_among k nodes ≡ true → to_address (if b then pos (start.addresses k) else pos 0) ≡ start.addresses k
  address_is k true e i = mod-eq_of_lt (below k i)
  address_is k false e i = absurd cc

  pub base_covers : Covers (ground_of ty without f start) base
  base_covers = record { in_range = base_fits; unlisted = base_unlisted; addresses = λ o i. address_is o (is_among o nodes) i i }

  pub base_parameter : (k : ℕ) → IsIn k parameters → base (parameter_key k) ≡ start.numbers k
  base_parameter k i = ap (λ b. if b then start.numbers k else pos 0) (among_of k parameters i)

  pub fit_start : (n : ℕ) → Fit (ground_of ty without f start) (with_parameters parameters start.numbers (replicate n (pos 0)))
  fit_start n = fit_parameters (ground_of ty without f start) parameters start.numbers (replicate n (pos 0)) (λ k i. all_at (λ k. fits (number_kind (ty.type_at k)) (start.numbers k)) k parameters v.in_range i) (fit_zeros (ground_of ty without f start) n)

  -- a map that covers the keys is valid
  pub valid_of : (m : InputMap) → Covers (ground_of ty without f start) m → IsValid ty without f (numbers_of m (keys_of ty without f))
  valid_of m cover = record {
    covers = in_range_of ty m (keys_of ty without f) cover.in_range (all_well ty without f h);
    apart =
        ap (λ m. are_valid (kept_of ty without f) (objects_of ty without f) (addresses_in m)) (under_is (ground_of ty without f start) m cover)
        ∙ valid_same (kept_of ty without f) (objects_of ty without f) (addresses_in m) start.addresses (λ o i. cover.addresses o.node (among_of o.node nodes (in_map (λ (o : Object). o.node) o (objects_of ty without f) i)))
        ∙ v.apart;
  }
