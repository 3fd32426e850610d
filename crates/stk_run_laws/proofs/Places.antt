-- Places: where those by name lie, and loads and stores of them.
use Rattle.std.proofs.Common.{◌≡◌, ℕ, zero, suc, ◌+◌, ◌^◌, ◌<◌, ◌==◌, Bool, true, false, ◌||◌, List, [], ◌∷◌, ℤ, pos, Option, Some, None, refl, sym, ap, ◌∙◌, subst, inl, arith, get_or}
use Rattle.std.proofs.lemmas.Grind.{common_steps}
use Rattle.std.specs.Prelude.{if◌then◌else◌, length}
use Rattle.stk_ctype.specs.Kinds.{bytes_of}
use Rattle.stk_ctype.specs.Types.{TypeTree}
use Rattle.stk_tree.specs.Syntax.{ExprTree, ExprFormTree}
use Rattle.stk_tree.specs.Parts.{bare}
use Rattle.stk_numbers.specs.Kinds.{fits}
use Rattle.stk_numbers.proofs.Wrapping.{wrap_in_range, wrap_twice}
use Rattle.stk_type_rules.specs.Types.{is_scalar}
use Rattle.stk_meaning.specs.declared.entry.Entry.{Entry}
use Rattle.stk_meaning.specs.Typings.{node_of, type_in, number_kind, is_array, is_among, converted}
use Rattle.stk_meaning.specs.Places.{Target, in_register, in_kept, in_object, unnamed, position_behind, object_target, target_at, target_of, form_target}
use Rattle.stk_meaning.specs.Visits.{read, reading, Visit, at_expression, Visits, one_visit, both_visits, collected, expression_visits}
use Rattle.stk_meaning.specs.Changes.{Spot, stored_in, changes}
use Rattle.stk_meaning.specs.Worlds.{Ran, Went, Cut, after, and_then, gives}
use Rattle.stk_meaning.specs.Expressions.{number_in, stored_at, place_value, address_of}
use Rattle.stk_meaning.specs.Keys.{Key, load_key, is_loaded, load_keys, visit_keys, number_info}
use Rattle.stk_meaning.specs.Paths.{InputMap, KeptNumbers, path_world}
use Rattle.stk_meaning.specs.Executions.{Outside}
use Rattle.stk_run_laws.specs.Held.{IsClear}
use Rattle.stk_run_laws.specs.TypedTree.{kept_node, kept_kind, IsReadWhole}
use Rattle.stk_run_laws.proofs.WellTyped.{offset_in, Suits, IsStored}
use Rattle.stk_run_laws.proofs.Maps.{Ground, held, IsListed, IsGround, Good, good_left, good_right}
use Rattle.stk_run_laws.proofs.Join.{EndsIn}
use Rattle.stk_run_laws.proofs.Parts.{Part, part_as, part_if, part_then, part_tail, reframes_left, reframes_then}
use Rattle.stk_run_laws.proofs.Leaves.{real, LoadsWell, part_load, StoresWell, part_store}
use Rattle.stk_run_laws.proofs.Frames.{inner_visits, outer_visits, reframes_first, reframes_grouped, reframes_split, bare_stands, part_after, part_keep}

-- a place is by the name of a register
abbrev pub is_register_place : Target → Bool
is_register_place (in_register i) = true
is_register_place (in_kept q) = false
is_register_place (in_object o) = false
is_register_place unnamed = false

same_numbers : (a b : ℕ) → a == b ≡ true → a ≡ b
same_numbers a b h = grind (arith, common_steps)

other_numbers : (a b : ℕ) → a == b ≡ false → a ≡ b → ⊥
other_numbers a b h e = grind (arith, common_steps)

-- the position of a kept object among the nodes
pub record StandsAt (i k : ℕ) (ks : List ℕ) (q : ℕ) : Type 0 where
  pub place : ℕ
  pub from : q ≡ i + place
  pub there : place < length ks
  pub is : get_or ks place 0 ≡ k

pub position_is : (i k : ℕ) (ks : List ℕ) (q : ℕ) → position_behind i k ks ≡ Some q → StandsAt i k ks q
position_is i k [] q h = absurd cc
position_is i k (j ∷ js) q h = by (k == j) refl (λ e. position_is (i + 1) k js q e) h
  where
    by : (b : Bool) → k == j ≡ b → (position_behind (i + 1) k js ≡ Some q → StandsAt (i + 1) k js q) → (if b then Some i else position_behind (i + 1) k js) ≡ Some q → StandsAt i k (j ∷ js) q
    by true e more h = let same : i ≡ q = cc in record { place = 0; from = omega arith; there = omega arith; is = sym (same_numbers k j e) }
    by false e more h =
        let a = more h in
        let from : q ≡ i + 1 + a.place = a.from in
        let there : a.place < length js = a.there in
        record { place = suc a.place; from = omega arith; there = omega arith; is = a.is }

no_position : (i k : ℕ) (ks : List ℕ) → position_behind i k ks ≡ None → (j : ℕ) → j < length ks → get_or ks j 0 ≡ k → ⊥
no_position i k [] h j l e = absurd (omega arith)
no_position i k (x ∷ xs) h j l e = by (k == x) refl h j l e (λ h j l e. no_position (i + 1) k xs h j l e)
  where
    by : (b : Bool) → k == x ≡ b → (if b then Some i else position_behind (i + 1) k xs) ≡ None → (j : ℕ) → j < length (x ∷ xs) → get_or (x ∷ xs) j 0 ≡ k → (position_behind (i + 1) k xs ≡ None → (j : ℕ) → j < length xs → get_or xs j 0 ≡ k → ⊥) → ⊥
    by true d h j l e more = cc
    by false d h zero l e more = other_numbers k x d (sym e)
    by false d h (suc j) l e more = more h j (omega arith) e

pub ends_map : {A S : Type 0} (Q R : A → Type 0) (x : Ran A S) → ((y : A) → Q y → R y) → EndsIn Q x → EndsIn R x
ends_map Q R (Went y r s t) f h = f y h
ends_map Q R (Cut t) f h = tt

pub ends_after : {A S : Type 0} (R : A → Type 0) (t : List Entry) (z : Ran A S) → EndsIn R z → EndsIn R (after t z)
ends_after R t (Went w r s u) i = i
ends_after R t (Cut u) i = tt

pub ends_then : {A B S : Type 0} (Q : A → Type 0) (R : B → Type 0) (x : Ran A S) (F : A → List ℤ → S → Ran B S) → ((y : A) (r : List ℤ) (s : S) → Q y → EndsIn R (F y r s)) → EndsIn Q x → EndsIn R (and_then x F)
ends_then Q R (Went y r s t) F f h = ends_after R t (F y r s) (f y r s h)
ends_then Q R (Cut t) F f h = tt

pub ends_all : {A B S : Type 0} (R : B → Type 0) (x : Ran A S) (F : A → List ℤ → S → Ran B S) → ((y : A) (r : List ℤ) (s : S) → EndsIn R (F y r s)) → EndsIn R (and_then x F)
ends_all R (Went y r s t) F f = ends_after R t (F y r s) (f y r s)
ends_all R (Cut t) F f = tt

module _ (c : Ground) where
  -- where a place by name lies: an object's address and the offset in it, where that is in memory
  abbrev pub AddressIs : Target → ℕ → ℕ → Type 0
  AddressIs (in_register i) offset a = is_among i c.setting.registers ≡ true
  AddressIs (in_kept q) offset a = (q < length c.setting.kept) × (a ≡ c.addresses (kept_node c.setting q))
  AddressIs (in_object o) offset a = (c.addresses o + offset < 2 ^ 64 → a ≡ c.addresses o + offset) × ((q : ℕ) → q < length c.setting.kept → kept_node c.setting q ≡ o → ⊥)
  AddressIs unnamed offset a = Unit {0}

  object_address : (n k : ℕ) (p : Option ℕ) → position_behind 0 k c.setting.kept ≡ p → AddressIs (object_target k p) 0 (address_of (real c n) (object_target k p) k)
  object_address n k None e = ((λ l. omega arith), λ q l h. no_position 0 k c.setting.kept e q l h)
  object_address n k (Some q) e =
      let a = position_is 0 k c.setting.kept q e in
      let same : a.place ≡ q = let from : q ≡ 0 + a.place = a.from in omega arith in
      (subst (λ z. z < length c.setting.kept) same a.there, sym (ap c.addresses (ap (λ z. kept_node c.setting z) (sym same) ∙ a.is)))

  pub target_address : (n k : ℕ) → AddressIs (target_at c.setting k) 0 (address_of (real c n) (target_at c.setting k) k)
  target_address n k = by (is_among k c.setting.registers) refl
    where
      by : (b : Bool) → is_among k c.setting.registers ≡ b → AddressIs (if b then in_register k else object_target k (position_behind 0 k c.setting.kept)) 0 (address_of (real c n) (if b then in_register k else object_target k (position_behind 0 k c.setting.kept)) k)
      by true e = e
      by false e = object_address n k (position_behind 0 k c.setting.kept) refl

  -- ---- loads

  loaded_in : (t : TypeTree) (target : Target) → is_scalar t ≡ true → is_register_place target ≡ false → is_loaded t read target ≡ true
  loaded_in t (in_register i) p q = absurd cc
  loaded_in t (in_kept q) p h = p
  loaded_in t (in_object o) p h = p
  loaded_in t unnamed p h = p

  -- a place that is read has the key of its load
  pub load_listed : (k : ℕ) (f : ExprFormTree) → is_scalar (c.setting.typing.type_at k) ≡ true → is_register_place (form_target c.setting k f) ≡ false → IsListed (load_keys c.setting k reading f) (load_key k)
  load_listed k f p q = subst (λ b. IsListed (if b then number_info c.setting.typing (load_key k) (c.setting.typing.type_at k) None ∷ [] else []) (load_key k)) (sym (loaded_in (c.setting.typing.type_at k) (form_target c.setting k f) p q)) (record { info = number_info c.setting.typing (load_key k) (c.setting.typing.type_at k) None; among = inl refl; is = refl })

  pub listed_in : (v : Visits) (key : Key) → Good c v → IsListed (collected (visit_keys c.setting) v) key → IsListed c.keys key
  listed_in v key h x = record { info = x.info; among = h.listed x.info x.among; is = x.is }

  -- what a place by name is known to be
  pub record PlaceIs (e : ExprTree) (a : ℕ) : Type 0 where
    pub address : AddressIs (target_of c.setting e) (offset_in c.setting.typing e) a
    pub loads : Good c (expression_visits c.setting.typing reading e) → is_scalar (type_in c.setting.typing (bare e)) ≡ true → is_register_place (target_of c.setting e) ≡ false → IsListed c.keys (load_key (node_of (bare e)))

  -- a load of an operand that is stored to
  pub loads_well : (t : Target) (offset k a : ℕ) (u : TypeTree) → AddressIs t offset a → Suits c.setting c.objects t offset u → (is_register_place t ≡ false → IsListed c.keys (load_key k)) → number_kind (c.setting.typing.type_at k) ≡ number_kind u → LoadsWell c t k (number_kind u) a
  loads_well (in_register i) offset k a u p q h e = tt
  loads_well (in_kept j) offset k a u p q h e = (h refl, e, p.0, q, p.1)
  loads_well (in_object o) offset k a u p q h e = (h refl, e)
  loads_well unnamed offset k a u p q h e = (h refl, e)

  -- a store of a number of its type
  pub stores_well : IsGround c → (t : Target) (offset a : ℕ) (u : TypeTree) (x : ℤ) → AddressIs t offset a → Suits c.setting c.objects t offset u → StoresWell c t (number_kind u) a (converted u x)
  stores_well h (in_register i) offset a u x p q = (subst (λ k. fits k (converted u x) ≡ true) q (wrap_in_range (number_kind u) x), p)
  stores_well h (in_kept j) offset a u x p q = (p.0, q, p.1, wrap_twice (number_kind u) x)
  stores_well h (in_object o) offset a u x p q =
      let l = h.lies o offset (bytes_of (number_kind u)) q in
      let same : a ≡ c.addresses o + offset = p.0 (omega arith) in
      (omega arith, λ j k. subst (λ z. IsClear (held c) j z (bytes_of (number_kind u))) (sym same) (h.clear o offset (bytes_of (number_kind u)) j q k (p.1 j k)))
  stores_well h unnamed offset a u x p q = tt

  -- ---- the value of a place

  pub read_scalar : (t : TypeTree) → is_array t ≡ false → IsReadWhole t read → is_scalar t ≡ true
  read_scalar t a h = by (is_scalar t) refl h
    where
      by : (b : Bool) → is_scalar t ≡ b → (b || is_array t) ≡ true → b ≡ true
      by true e h = refl
      by false e h = absurd cc

  -- what is asked of a place that is read at a node: its load is listed, and a kept object has its kind
  pub record ReadsWell (k : ℕ) (target : Target) : Type 0 where
    pub listed : is_array (c.setting.typing.type_at k) ≡ false → is_register_place target ≡ false → IsListed c.keys (load_key k)
    pub kept : (q : ℕ) → target ≡ in_kept q → number_kind (c.setting.typing.type_at k) ≡ kept_kind c.setting q

  reads_well : (k : ℕ) (t : Target) (offset a : ℕ) → is_array (c.setting.typing.type_at k) ≡ false → ReadsWell k t → AddressIs t offset a → LoadsWell c t k (number_kind (c.setting.typing.type_at k)) a
  reads_well k (in_register i) offset a n h p = tt
  reads_well k (in_kept q) offset a n h p = (h.listed n refl, refl, p.0, h.kept q refl, p.1)
  reads_well k (in_object o) offset a n h p = (h.listed n refl, refl)
  reads_well k unnamed offset a n h p = (h.listed n refl, refl)

  -- a place that is read: of an array its address, else its number, which is asked at its own node
  pub part_place : (n : ℕ) (v : Visits) (k : ℕ) (f : ExprFormTree) (target : Target) (offset : ℕ) (RO : Bool → List ℤ → Outside → Ran ℕ Outside) (PO : InputMap → Bool → List ℤ → KeptNumbers → Ran ℕ KeptNumbers) → ((b : Bool) → Part c (Good c (both_visits v (one_visit (at_expression k reading f)))) v (RO b) (λ m. PO m b)) → ((r : List ℤ) (s : Outside) → EndsIn (AddressIs target offset) (RO true r s)) → (Good c (one_visit (at_expression k reading f)) → ReadsWell k target) → Part c (Unit {0}) (both_visits v (one_visit (at_expression k reading f))) (place_value (real c n) target k (c.setting.typing.type_at k) RO) (λ m. place_value (path_world m) target k (c.setting.typing.type_at k) (PO m))
  part_place n v k f target offset RO PO place known well = by (is_array (c.setting.typing.type_at k)) refl
    where
      whole : Visits
      whole = both_visits v (one_visit (at_expression k reading f))

      by : (b : Bool) → is_array (c.setting.typing.type_at k) ≡ b → Part c (Unit {0}) (both_visits v (one_visit (at_expression k reading f))) (λ r s. if b then and_then (RO false r s) (λ a. gives (pos a)) else and_then (RO true r s) (λ a r s. number_in (real c n) target k (number_kind (c.setting.typing.type_at k)) a r s)) (λ m r kept. if b then and_then (PO m false r kept) (λ a. gives (pos a)) else and_then (PO m true r kept) (λ a r kept. number_in (path_world m) target k (number_kind (c.setting.typing.type_at k)) a r kept))
      by true e =
          part_if c (Good c (both_visits v (one_visit (at_expression k reading f)))) (Unit {0}) (both_visits v (one_visit (at_expression k reading f))) _ _ (λ q h. h)
          (part_as c (Good c (both_visits v (one_visit (at_expression k reading f)))) v (both_visits v (one_visit (at_expression k reading f))) _ _ (reframes_left c v (one_visit (at_expression k reading f)))
          (part_tail c (Good c (both_visits v (one_visit (at_expression k reading f)))) v (RO false) (λ m. PO m false) (λ a r. pos a) (λ a. []) (place false)))
      by false e =
          part_if c (Good c (both_visits v (one_visit (at_expression k reading f)))) (Unit {0}) (both_visits v (one_visit (at_expression k reading f))) _ _ (λ q h. h)
          (part_then c (Good c (both_visits v (one_visit (at_expression k reading f)))) (AddressIs target offset) v (one_visit (at_expression k reading f)) (RO true) (λ m. PO m true) _ _ (place true) (λ q h r s. known r s)
          (λ a. part_load c n (AddressIs target offset a) (one_visit (at_expression k reading f)) target k (number_kind (c.setting.typing.type_at k)) a refl (λ p h. reads_well k target offset a e (well h) p)))

  -- ---- what reads and writes a place

  -- a place, its number, and the store of a number that is found from it: `++`, `--` and compound assignments, at a
  -- visit
  pub part_update : (n : ℕ) (e : ExprTree) (visit : Visit) (RO : List ℤ → Outside → Ran ℕ Outside) (PO : InputMap → List ℤ → KeptNumbers → Ran ℕ KeptNumbers) (entries : ℤ → List Entry) (number result : ℤ → ℤ) → Part c (Good c (expression_visits c.setting.typing reading e)) (inner_visits c.setting.typing reading e) RO PO → ((r : List ℤ) (s : Outside) → EndsIn (PlaceIs e) (RO r s)) → ((y : Spot) → changes c.setting (one_visit visit) y ≡ false → stored_in (target_of c.setting e) y ≡ false) → (Good c (one_visit visit) → IsStored c.setting c.objects e) → Part c (Unit {0}) (both_visits (expression_visits c.setting.typing reading e) (one_visit visit)) (λ r s. and_then (RO r s) (λ place r s. and_then (number_in (real c n) (target_of c.setting e) (node_of (bare e)) (number_kind (type_in c.setting.typing e)) place r s) (λ x r s. after (entries x) (stored_at (real c n) (target_of c.setting e) (number_kind (type_in c.setting.typing e)) place (converted (type_in c.setting.typing e) (number x)) (result x) r s)))) (λ m r kept. and_then (PO m r kept) (λ place r kept. and_then (number_in (path_world m) (target_of c.setting e) (node_of (bare e)) (number_kind (type_in c.setting.typing e)) place r kept) (λ x r kept. after (entries x) (stored_at (path_world m) (target_of c.setting e) (number_kind (type_in c.setting.typing e)) place (converted (type_in c.setting.typing e) (number x)) (result x) r kept))))
  part_update n e visit RO PO entries number result a known ch suits =
      let whole = expression_visits c.setting.typing reading e in
      let i = inner_visits c.setting.typing reading e in
      let o = outer_visits c.setting.typing reading e in
      let v = both_visits whole (one_visit visit) in
      let t = target_of c.setting e in
      let u = type_in c.setting.typing e in
      part_if c (Good c v) (Unit {0}) v _ _ (λ q h. h)
      (part_as c (Good c v) (both_visits i (both_visits o (one_visit visit))) v _ _
      (reframes_then c (both_visits i (both_visits o (one_visit visit))) (both_visits (both_visits i o) (one_visit visit)) v (reframes_grouped c i o (one_visit visit)) (reframes_first c (both_visits i o) whole (one_visit visit) (reframes_split c reading e)))
      (part_then c (Good c v) (λ place. PlaceIs e place × Good c v) i (both_visits o (one_visit visit)) RO PO _ _
      (part_if c (Good c whole) (Good c v) i RO PO (λ q h. good_left c whole (one_visit visit) q) a)
      (λ q h r s. ends_map (PlaceIs e) (λ place. PlaceIs e place × Good c v) (RO r s) (λ y p. (p, q)) (known r s))
      (λ place. part_keep c (PlaceIs e place × Good c v) o (one_visit visit) _ _ _ _
      (part_load c n (PlaceIs e place × Good c v) o t (node_of (bare e)) (number_kind u) place (bare_stands c reading e)
      (λ q h. let k = suits (good_right c whole (one_visit visit) q.1) in
      loads_well t (offset_in c.setting.typing e) (node_of (bare e)) place u q.0.address k.suits (λ no. q.0.loads (good_left c whole (one_visit visit) q.1) k.scalar no) (ap number_kind (sym k.same))))
      (λ x. part_after c (PlaceIs e place × Good c v) (one_visit visit) (entries x) _ _
      (part_store c n (PlaceIs e place × Good c v) (one_visit visit) t (number_kind u) place (converted u (number x)) (result x) ch
      (λ q h. stores_well h.ground t (offset_in c.setting.typing e) place u (number x) q.0.address (suits h).suits))))))
