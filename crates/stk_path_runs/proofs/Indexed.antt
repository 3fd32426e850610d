-- One key more in an index.
use Rattle.std.proofs.Common.{ℕ, zero, suc, ◌≡◌, ◌∙◌, Bool, true, false, ◌==◌, ◌&&◌, nat_eq, cond, List, [], ◌∷◌, ◌++◌, length, refl, sym, ap, Option, Some, None, is_some, eqb-true}
use Rattle.std.specs.Prelude.{if◌then◌else◌}
use Rattle.indexmap.specs.IndexMap.{get}
use Rattle.stk_meaning.specs.Keys.{Key, parameter_key, address_key, unset_key, load_key, call_key, loop_key, KeyInfo}
use Rattle.stk_meaning.specs.Paths.{same_key}
use Rattle.stk_path_runs.specs.declared.slots.Slots.{Slots}
use Rattle.stk_path_runs.specs.declared.key_index.LoopKey.{LoopKey}
use Rattle.stk_path_runs.specs.declared.key_index.KeyIndex.{KeyIndex}
use Rattle.stk_path_runs.specs.Places.{first_place, first_of, key_place, slot_in, same_loop, IsKeyIndex}
use Rattle.stk_path_runs.proofs.Placed.{first_place-push}

-- the place of a key among keys with one more
pub one_more : (key : Key) (keys : List KeyInfo) (x : KeyInfo) (last : Key) (before now : Option ℕ) (place : ℕ) → x.key ≡ last → before ≡ key_place key keys → length keys ≡ place → now ≡ (if same_key last key then first_of before place else before) → now ≡ key_place key (keys ++ x ∷ [])
one_more key keys x last before now place is old count e =
    e
    ∙ ap (λ o. if same_key last key then first_of o place else o) old
    ∙ ap (λ n. if same_key last key then first_of (key_place key keys) n else key_place key keys) (sym count)
    ∙ ap (λ k. if same_key k key then first_of (key_place key keys) (length keys) else key_place key keys) (sym is)
    ∙ sym (first_place-push (λ (y : KeyInfo). same_key y.key key) keys x)

abbrev pub PutsSlot : Slots → Slots → ℕ → ℕ → Type 0
PutsSlot old now node place = (k : ℕ) → slot_in now k ≡ (if node == k then first_of (slot_in old k) place else slot_in old k)

pub push_parameter : (old : KeyIndex) (now : Slots) (node place : ℕ) (keys : List KeyInfo) (x : KeyInfo) → x.key ≡ parameter_key node → PutsSlot old.parameters now node place → length keys ≡ place → IsKeyIndex old keys → IsKeyIndex (record old { parameters = now }) (keys ++ x ∷ [])
push_parameter old now node place keys x is puts count h = record {
  parameters = λ k. one_more (parameter_key k) keys x (parameter_key node) (slot_in old.parameters k) (slot_in now k) place is (h.parameters k) count (puts k);
  addresses = λ k. one_more (address_key k) keys x (parameter_key node) (slot_in old.addresses k) (slot_in old.addresses k) place is (h.addresses k) count refl;
  unset = λ k. one_more (unset_key k) keys x (parameter_key node) (slot_in old.unset k) (slot_in old.unset k) place is (h.unset k) count refl;
  loads = λ k. one_more (load_key k) keys x (parameter_key node) (slot_in old.loads k) (slot_in old.loads k) place is (h.loads k) count refl;
  calls = λ k. one_more (call_key k) keys x (parameter_key node) (slot_in old.calls k) (slot_in old.calls k) place is (h.calls k) count refl;
  loops = λ q. one_more (loop_key q.node q.register) keys x (parameter_key node) (get same_loop old.loops q) (get same_loop old.loops q) place is (h.loops q) count refl;
}

pub push_address : (old : KeyIndex) (now : Slots) (node place : ℕ) (keys : List KeyInfo) (x : KeyInfo) → x.key ≡ address_key node → PutsSlot old.addresses now node place → length keys ≡ place → IsKeyIndex old keys → IsKeyIndex (record old { addresses = now }) (keys ++ x ∷ [])
push_address old now node place keys x is puts count h = record {
  parameters = λ k. one_more (parameter_key k) keys x (address_key node) (slot_in old.parameters k) (slot_in old.parameters k) place is (h.parameters k) count refl;
  addresses = λ k. one_more (address_key k) keys x (address_key node) (slot_in old.addresses k) (slot_in now k) place is (h.addresses k) count (puts k);
  unset = λ k. one_more (unset_key k) keys x (address_key node) (slot_in old.unset k) (slot_in old.unset k) place is (h.unset k) count refl;
  loads = λ k. one_more (load_key k) keys x (address_key node) (slot_in old.loads k) (slot_in old.loads k) place is (h.loads k) count refl;
  calls = λ k. one_more (call_key k) keys x (address_key node) (slot_in old.calls k) (slot_in old.calls k) place is (h.calls k) count refl;
  loops = λ q. one_more (loop_key q.node q.register) keys x (address_key node) (get same_loop old.loops q) (get same_loop old.loops q) place is (h.loops q) count refl;
}

pub push_unset : (old : KeyIndex) (now : Slots) (node place : ℕ) (keys : List KeyInfo) (x : KeyInfo) → x.key ≡ unset_key node → PutsSlot old.unset now node place → length keys ≡ place → IsKeyIndex old keys → IsKeyIndex (record old { unset = now }) (keys ++ x ∷ [])
push_unset old now node place keys x is puts count h = record {
  parameters = λ k. one_more (parameter_key k) keys x (unset_key node) (slot_in old.parameters k) (slot_in old.parameters k) place is (h.parameters k) count refl;
  addresses = λ k. one_more (address_key k) keys x (unset_key node) (slot_in old.addresses k) (slot_in old.addresses k) place is (h.addresses k) count refl;
  unset = λ k. one_more (unset_key k) keys x (unset_key node) (slot_in old.unset k) (slot_in now k) place is (h.unset k) count (puts k);
  loads = λ k. one_more (load_key k) keys x (unset_key node) (slot_in old.loads k) (slot_in old.loads k) place is (h.loads k) count refl;
  calls = λ k. one_more (call_key k) keys x (unset_key node) (slot_in old.calls k) (slot_in old.calls k) place is (h.calls k) count refl;
  loops = λ q. one_more (loop_key q.node q.register) keys x (unset_key node) (get same_loop old.loops q) (get same_loop old.loops q) place is (h.loops q) count refl;
}

pub push_load : (old : KeyIndex) (now : Slots) (node place : ℕ) (keys : List KeyInfo) (x : KeyInfo) → x.key ≡ load_key node → PutsSlot old.loads now node place → length keys ≡ place → IsKeyIndex old keys → IsKeyIndex (record old { loads = now }) (keys ++ x ∷ [])
push_load old now node place keys x is puts count h = record {
  parameters = λ k. one_more (parameter_key k) keys x (load_key node) (slot_in old.parameters k) (slot_in old.parameters k) place is (h.parameters k) count refl;
  addresses = λ k. one_more (address_key k) keys x (load_key node) (slot_in old.addresses k) (slot_in old.addresses k) place is (h.addresses k) count refl;
  unset = λ k. one_more (unset_key k) keys x (load_key node) (slot_in old.unset k) (slot_in old.unset k) place is (h.unset k) count refl;
  loads = λ k. one_more (load_key k) keys x (load_key node) (slot_in old.loads k) (slot_in now k) place is (h.loads k) count (puts k);
  calls = λ k. one_more (call_key k) keys x (load_key node) (slot_in old.calls k) (slot_in old.calls k) place is (h.calls k) count refl;
  loops = λ q. one_more (loop_key q.node q.register) keys x (load_key node) (get same_loop old.loops q) (get same_loop old.loops q) place is (h.loops q) count refl;
}

pub push_call : (old : KeyIndex) (now : Slots) (node place : ℕ) (keys : List KeyInfo) (x : KeyInfo) → x.key ≡ call_key node → PutsSlot old.calls now node place → length keys ≡ place → IsKeyIndex old keys → IsKeyIndex (record old { calls = now }) (keys ++ x ∷ [])
push_call old now node place keys x is puts count h = record {
  parameters = λ k. one_more (parameter_key k) keys x (call_key node) (slot_in old.parameters k) (slot_in old.parameters k) place is (h.parameters k) count refl;
  addresses = λ k. one_more (address_key k) keys x (call_key node) (slot_in old.addresses k) (slot_in old.addresses k) place is (h.addresses k) count refl;
  unset = λ k. one_more (unset_key k) keys x (call_key node) (slot_in old.unset k) (slot_in old.unset k) place is (h.unset k) count refl;
  loads = λ k. one_more (load_key k) keys x (call_key node) (slot_in old.loads k) (slot_in old.loads k) place is (h.loads k) count refl;
  calls = λ k. one_more (call_key k) keys x (call_key node) (slot_in old.calls k) (slot_in now k) place is (h.calls k) count (puts k);
  loops = λ q. one_more (loop_key q.node q.register) keys x (call_key node) (get same_loop old.loops q) (get same_loop old.loops q) place is (h.loops q) count refl;
}

-- what is known of the key of a loop
pub same_is : (a b : LoopKey) → same_loop a b ≡ true → b ≡ a
same_is a b h =
    let node : a.node ≡ b.node = eqb-true _ _ (and_left _ _ h) in
    let register : a.register ≡ b.register = eqb-true _ _ (and_right (nat_eq a.node b.node) _ h) in
    sym (λ i. record { node = node i; register = register i })
  where
    and_left : (a b : Bool) → a && b ≡ true → a ≡ true
    and_left true b e = refl
    and_left false b e = e

    and_right : (a b : Bool) → a && b ≡ true → b ≡ true
    and_right true b e = e
    and_right false b e = absurd cc

-- a key that is there keeps its place
pub kept_place : (at : LoopKey → Option ℕ) (key q : LoopKey) (place p : ℕ) → at key ≡ Some p → at q ≡ (if same_loop key q then first_of (at q) place else at q)
kept_place at key q place p e = by (same_loop key q) refl where
  by : (b : Bool) → same_loop key q ≡ b → at q ≡ (if b then first_of (at q) place else at q)
  by true h = let there : at q ≡ Some p = ap at (same_is key q h) ∙ e in there ∙ sym (ap (λ o. first_of o place) there)
  by false h = refl

-- one that isn't there takes the place
pub new_place : (at now : LoopKey → Option ℕ) (key q : LoopKey) (place : ℕ) → at key ≡ None → now q ≡ cond (same_loop key q) (Some place) (at q) → now q ≡ (if same_loop key q then first_of (at q) place else at q)
new_place at now key q place e u = u ∙ by (same_loop key q) refl where
  by : (b : Bool) → same_loop key q ≡ b → cond b (Some place) (at q) ≡ (if b then first_of (at q) place else at q)
  by true h = let there : at q ≡ None = ap at (same_is key q h) ∙ e in sym (ap (λ o. first_of o place) there)
  by false h = refl

abbrev pub PutsLoop : KeyIndex → KeyIndex → LoopKey → ℕ → Type 0
PutsLoop old now key place = (q : LoopKey) → get same_loop now.loops q ≡ (if same_loop key q then first_of (get same_loop old.loops q) place else get same_loop old.loops q)

pub push_loop : (old now : KeyIndex) (key : LoopKey) (place : ℕ) (keys : List KeyInfo) (x : KeyInfo) → x.key ≡ loop_key key.node key.register → PutsLoop old now key place → length keys ≡ place → IsKeyIndex old keys → IsKeyIndex (record old { loops = now.loops }) (keys ++ x ∷ [])
push_loop old now key place keys x is puts count h = record {
  parameters = λ k. one_more (parameter_key k) keys x (loop_key key.node key.register) (slot_in old.parameters k) (slot_in old.parameters k) place is (h.parameters k) count refl;
  addresses = λ k. one_more (address_key k) keys x (loop_key key.node key.register) (slot_in old.addresses k) (slot_in old.addresses k) place is (h.addresses k) count refl;
  unset = λ k. one_more (unset_key k) keys x (loop_key key.node key.register) (slot_in old.unset k) (slot_in old.unset k) place is (h.unset k) count refl;
  loads = λ k. one_more (load_key k) keys x (loop_key key.node key.register) (slot_in old.loads k) (slot_in old.loads k) place is (h.loads k) count refl;
  calls = λ k. one_more (call_key k) keys x (loop_key key.node key.register) (slot_in old.calls k) (slot_in old.calls k) place is (h.calls k) count refl;
  loops = λ q. one_more (loop_key q.node q.register) keys x (loop_key key.node key.register) (get same_loop old.loops q) (get same_loop now.loops q) place is (h.loops q) count (puts q);
}
