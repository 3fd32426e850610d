-- Input maps: which keys a part asks and changes, and maps with another number at a key.
use Rattle.std.proofs.Common.{◌≡◌, ℕ, ◌+◌, ◌^◌, ◌<◌, ◌==◌, Bool, true, false, List, ℤ, pos, refl, ap, ◌∙◌, subst, arith}
use Rattle.std.proofs.lemmas.Grind.{common_steps}
use Rattle.std.specs.Prelude.{if◌then◌else◌, ◌&&◌, length}
use Rattle.stk_ctype.specs.declared.kind.IntKind.{IntKind}
use Rattle.stk_ctype.specs.declared.kind.IntKind.TheVariants as kind
use Rattle.stk_numbers.specs.Kinds.{fits}
use Rattle.stk_meaning.specs.Typings.{Typing, number_kind}
use Rattle.stk_meaning.specs.Operations.{to_address}
use Rattle.stk_meaning.specs.Places.{Setting}
use Rattle.stk_meaning.specs.Visits.{Visits, both_visits, collected}
use Rattle.stk_meaning.specs.Keys.{Key, parameter_key, address_key, unset_key, load_key, call_key, loop_key, KeyInfo, visit_keys, Object}
use Rattle.stk_meaning.specs.Paths.{InputMap, same_key}
use Rattle.stk_run_laws.specs.Visits.{IsIn, EachVisit}
use Rattle.stk_run_laws.specs.Held.{Held, IsClear, AreHeld}
use Rattle.stk_run_laws.proofs.Nodes.{Stands, Distinct, in_left, in_right}
use Rattle.stk_run_laws.specs.TypedTree.{kept_node, kept_kind}
use Rattle.stk_run_laws.proofs.WellTyped.{IsPart, IsObject, IsWellVisit}

-- what runs rest on here: the setting of a function, its keys and memory objects, and the addresses of an execution
pub record Ground : Type 0 where
  pub setting : Setting
  pub keys : List KeyInfo
  pub objects : List Object
  pub addresses : ℕ → ℕ

-- its kept objects
abbrev pub held : Ground → Held
held c = record { count = length c.setting.kept; kind = kept_kind c.setting; address = λ q. c.addresses (kept_node c.setting q) }

-- the kind of a key's numbers
abbrev pub kind_at : Typing → Key → IntKind
kind_at ty (parameter_key k) = number_kind (ty.type_at k)
kind_at ty (address_key k) = kind.ULong
kind_at ty (unset_key k) = number_kind (ty.type_at k)
kind_at ty (load_key k) = number_kind (ty.type_at k)
kind_at ty (call_key k) = number_kind (ty.type_at k)
kind_at ty (loop_key k j) = number_kind (ty.type_at j)

-- what a part may ask: the numbers of its own nodes, and addresses
abbrev pub Asks : Visits → Key → Type 0
Asks v (parameter_key k) = Unit {0}
Asks v (address_key k) = Unit {0}
Asks v (unset_key k) = Stands k v
Asks v (load_key k) = Stands k v
Asks v (call_key k) = Stands k v
Asks v (loop_key k j) = Stands k v

-- what is changed for a part: the numbers of its own nodes
abbrev pub Changes : Visits → Key → Type 0
Changes v (parameter_key k) = ⊥
Changes v (address_key k) = ⊥
Changes v (unset_key k) = Stands k v
Changes v (load_key k) = Stands k v
Changes v (call_key k) = Stands k v
Changes v (loop_key k j) = Stands k v

-- a part has no key of another's
pub asks_apart : (v w : Visits) → ((k : ℕ) → Stands k v → Stands k w → ⊥) → (key : Key) → Asks v key → Changes w key → ⊥
asks_apart v w h (parameter_key k) p q = q
asks_apart v w h (address_key k) p q = q
asks_apart v w h (unset_key k) p q = h k p q
asks_apart v w h (load_key k) p q = h k p q
asks_apart v w h (call_key k) p q = h k p q
asks_apart v w h (loop_key k j) p q = h k p q

pub asks_wider : (v w : Visits) → ((k : ℕ) → Stands k v → Stands k w) → (key : Key) → Asks v key → Asks w key
asks_wider v w h (parameter_key k) p = tt
asks_wider v w h (address_key k) p = tt
asks_wider v w h (unset_key k) p = h k p
asks_wider v w h (load_key k) p = h k p
asks_wider v w h (call_key k) p = h k p
asks_wider v w h (loop_key k j) p = h k p

pub changes_wider : (v w : Visits) → ((k : ℕ) → Stands k v → Stands k w) → (key : Key) → Changes v key → Changes w key
changes_wider v w h (parameter_key k) p = p
changes_wider v w h (address_key k) p = p
changes_wider v w h (unset_key k) p = h k p
changes_wider v w h (load_key k) p = h k p
changes_wider v w h (call_key k) p = h k p
changes_wider v w h (loop_key k j) p = h k p

-- two maps give a part the same numbers
pub record Agree (v : Visits) (m m' : InputMap) : Type 0 where
  pub at : (key : Key) → Asks v key → m key ≡ m' key

pub agree_wider : (v w : Visits) (m m' : InputMap) → ((k : ℕ) → Stands k v → Stands k w) → Agree w m m' → Agree v m m'
agree_wider v w m m' h a = record { at = λ key p. a.at key (asks_wider v w h key p) }

-- a key that is listed
pub record IsListed (keys : List KeyInfo) (key : Key) : Type 0 where
  pub info : KeyInfo
  pub among : IsIn info keys
  pub is : info.key ≡ key

-- a map has a number in range for each key, 0 for those that aren't listed, and the addresses of the execution
pub record Covers (c : Ground) (m : InputMap) : Type 0 where
  pub in_range : (key : Key) → fits (kind_at c.setting.typing key) (m key) ≡ true
  pub unlisted : (key : Key) → (IsListed c.keys key → ⊥) → m key ≡ pos 0
  pub addresses : (o : ℕ) → IsObject c.objects o → to_address (m (address_key o)) ≡ c.addresses o

-- a map that differs from another one at the numbers of a part's nodes alone
pub record OnlyIn (c : Ground) (v : Visits) (m m' : InputMap) : Type 0 where
  pub others : (key : Key) → (Changes v key → ⊥) → m' key ≡ m key
  pub keeps : Covers c m → Covers c m'

pub only_refl : (c : Ground) (v : Visits) (m : InputMap) → OnlyIn c v m m
only_refl c v m = record { others = λ key h. refl; keeps = λ h. h }

pub only_wider : (c : Ground) (v w : Visits) (m m' : InputMap) → ((k : ℕ) → Stands k v → Stands k w) → OnlyIn c v m m' → OnlyIn c w m m'
only_wider c v w m m' h o = record { others = λ key p. o.others key (λ q. p (changes_wider v w h key q)); keeps = o.keeps }

-- one change after another
pub only_both : (c : Ground) (v w x : Visits) (m m' m'' : InputMap) → ((k : ℕ) → Stands k v → Stands k x) → ((k : ℕ) → Stands k w → Stands k x) → OnlyIn c v m m' → OnlyIn c w m' m'' → OnlyIn c x m m''
only_both c v w x m m' m'' h i a b = record {
  others = λ key p. b.others key (λ q. p (changes_wider w x i key q)) ∙ a.others key (λ q. p (changes_wider v x h key q));
  keeps = λ z. b.keeps (a.keeps z);
}

-- a part that asks none of what is changed
pub agree_only : (c : Ground) (v w : Visits) (m m' : InputMap) → ((k : ℕ) → Stands k v → Stands k w → ⊥) → OnlyIn c w m m' → Agree v m' m
agree_only c v w m m' h o = record { at = λ key p. o.others key (λ q. asks_apart v w h key p q) }

-- ---- maps with another number at a key

same_number : (a b : ℕ) → a == b ≡ true → a ≡ b
same_number a b h = grind (arith, common_steps)

both_numbers : (a b i j : ℕ) → a == i && b == j ≡ true → (a ≡ i) × (b ≡ j)
both_numbers a b i j h = split (a == i) (b == j) refl refl h
  where
    split : (x y : Bool) → a == i ≡ x → b == j ≡ y → x && y ≡ true → (a ≡ i) × (b ≡ j)
    split true true p q h = (same_number a i p, same_number b j q)
    split true false p q h = absurd cc
    split false y p q h = absurd cc

pub same_is : (x y : Key) → same_key x y ≡ true → x ≡ y
same_is (parameter_key k) (parameter_key i) h = ap parameter_key (same_number k i h)
same_is (parameter_key k) (address_key i) h = absurd cc
same_is (parameter_key k) (unset_key i) h = absurd cc
same_is (parameter_key k) (load_key i) h = absurd cc
same_is (parameter_key k) (call_key i) h = absurd cc
same_is (parameter_key k) (loop_key i l) h = absurd cc
same_is (address_key k) (parameter_key i) h = absurd cc
same_is (address_key k) (address_key i) h = ap address_key (same_number k i h)
same_is (address_key k) (unset_key i) h = absurd cc
same_is (address_key k) (load_key i) h = absurd cc
same_is (address_key k) (call_key i) h = absurd cc
same_is (address_key k) (loop_key i l) h = absurd cc
same_is (unset_key k) (parameter_key i) h = absurd cc
same_is (unset_key k) (address_key i) h = absurd cc
same_is (unset_key k) (unset_key i) h = ap unset_key (same_number k i h)
same_is (unset_key k) (load_key i) h = absurd cc
same_is (unset_key k) (call_key i) h = absurd cc
same_is (unset_key k) (loop_key i l) h = absurd cc
same_is (load_key k) (parameter_key i) h = absurd cc
same_is (load_key k) (address_key i) h = absurd cc
same_is (load_key k) (unset_key i) h = absurd cc
same_is (load_key k) (load_key i) h = ap load_key (same_number k i h)
same_is (load_key k) (call_key i) h = absurd cc
same_is (load_key k) (loop_key i l) h = absurd cc
same_is (call_key k) (parameter_key i) h = absurd cc
same_is (call_key k) (address_key i) h = absurd cc
same_is (call_key k) (unset_key i) h = absurd cc
same_is (call_key k) (load_key i) h = absurd cc
same_is (call_key k) (call_key i) h = ap call_key (same_number k i h)
same_is (call_key k) (loop_key i l) h = absurd cc
same_is (loop_key k j) (parameter_key i) h = absurd cc
same_is (loop_key k j) (address_key i) h = absurd cc
same_is (loop_key k j) (unset_key i) h = absurd cc
same_is (loop_key k j) (load_key i) h = absurd cc
same_is (loop_key k j) (call_key i) h = absurd cc
same_is (loop_key k j) (loop_key i l) h = let e = both_numbers k j i l h in ap (λ z. loop_key z j) e.0 ∙ ap (λ z. loop_key i z) e.1

number_itself : (k : ℕ) → k == k ≡ true
number_itself k = grind (arith, common_steps)

pub key_itself : (x : Key) → same_key x x ≡ true
key_itself (parameter_key k) = number_itself k
key_itself (address_key k) = number_itself k
key_itself (unset_key k) = number_itself k
key_itself (load_key k) = number_itself k
key_itself (call_key k) = number_itself k
key_itself (loop_key k j) = both (k == k) (j == j) (number_itself k) (number_itself j)
  where
    both : (a b : Bool) → a ≡ true → b ≡ true → a && b ≡ true
    both true true p q = refl
    both true false p q = absurd cc
    both false b p q = absurd cc

-- a map with another number at a key
unfoldable pub put : InputMap → Key → ℤ → InputMap
put m key x other = if same_key key other then x else m other

pub put_here : (m : InputMap) (key : Key) (x : ℤ) → put m key x key ≡ x
unfolding put
put_here m key x = ap (λ b. if b then x else m key) (key_itself key)

put_cases : (P : ℤ → Type 0) (m : InputMap) (key : Key) (x : ℤ) (other : Key) → (key ≡ other → P x) → P (m other) → P (put m key x other)
unfolding put
put_cases P m key x other p q = by (same_key key other) refl
  where
    by : (b : Bool) → same_key key other ≡ b → P (if b then x else m other)
    by true e = p (same_is key other e)
    by false e = q

pub put_there : (m : InputMap) (key : Key) (x : ℤ) (other : Key) → (key ≡ other → ⊥) → put m key x other ≡ m other
put_there m key x other h = put_cases (λ z. z ≡ m other) m key x other (λ e. absurd (h e)) refl

-- a key that is listed and no address gets a number in range
pub put_covers : (c : Ground) (m : InputMap) (key : Key) (x : ℤ) → IsListed c.keys key → fits (kind_at c.setting.typing key) x ≡ true → ((o : ℕ) → key ≡ address_key o → ⊥) → Covers c m → Covers c (put m key x)
put_covers c m key x listed fit no_address h = record {
  in_range = λ other. put_cases (λ z. fits (kind_at c.setting.typing other) z ≡ true) m key x other (λ e. subst (λ k. fits (kind_at c.setting.typing k) x ≡ true) e fit) (h.in_range other);
  unlisted = λ other no. put_there m key x other (λ e. no (subst (IsListed c.keys) e listed)) ∙ h.unlisted other no;
  addresses = λ o i. ap to_address (put_there m key x (address_key o) (no_address o)) ∙ h.addresses o i;
}

pub put_only : (c : Ground) (v : Visits) (m : InputMap) (key : Key) (x : ℤ) → IsListed c.keys key → fits (kind_at c.setting.typing key) x ≡ true → ((o : ℕ) → key ≡ address_key o → ⊥) → Changes v key → OnlyIn c v m (put m key x)
put_only c v m key x listed fit no_address own = record {
  others = λ other h. put_there m key x other (λ e. h (subst (Changes v) e own));
  keeps = put_covers c m key x listed fit no_address;
}

-- ---- what is asked of a part of a function

-- where objects lie: kept ones share no byte with each other, nor with parts of other objects that have a name and a
-- scalar or struct type
pub record IsGround (c : Ground) : Type 0 where
  pub are_held : AreHeld (held c)
  pub lies : (o offset size : ℕ) → IsPart c.objects o offset size → c.addresses o + (offset + size) < 2 ^ 64
  pub clear : (o offset size q : ℕ) → IsPart c.objects o offset size → q < length c.setting.kept → (kept_node c.setting q ≡ o → ⊥) → IsClear (held c) q (c.addresses o + offset) size

-- its nodes are different, its keys are the function's, and typing agrees with it
pub record Good (c : Ground) (v : Visits) : Type 0 where
  pub ground : IsGround c
  pub distinct : Distinct v
  pub listed : (x : KeyInfo) → IsIn x (collected (visit_keys c.setting) v) → IsIn x c.keys
  pub typed : EachVisit (IsWellVisit c.setting c.objects) v

pub good_left : (c : Ground) (v w : Visits) → Good c (both_visits v w) → Good c v
good_left c v w h = record { ground = h.ground; distinct = h.distinct.0; listed = λ x i. h.listed x (in_left x (collected (visit_keys c.setting) v) (collected (visit_keys c.setting) w) i); typed = h.typed.0 }

pub good_right : (c : Ground) (v w : Visits) → Good c (both_visits v w) → Good c w
good_right c v w h = record { ground = h.ground; distinct = h.distinct.1; listed = λ x i. h.listed x (in_right x (collected (visit_keys c.setting) v) (collected (visit_keys c.setting) w) i); typed = h.typed.1 }
