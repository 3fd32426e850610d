-- Places in lists: the first element that passes a test, and so the number of a key.
use Rattle.std.specs.Prelude.{◌≡◌, ℕ, suc, Bool, ◌&&◌, nat_eq, if◌then◌else◌, List, [], ◌∷◌, Option, Some, None, ℤ, pos, get_or}
use Rattle.std.specs.Option.{option_map}
use Rattle.indexmap.specs.IndexMap.{get}
use Rattle.stk_meaning.specs.Keys.{Key, parameter_key, address_key, unset_key, load_key, call_key, loop_key, KeyInfo}
use Rattle.stk_meaning.specs.Paths.{same_key}
use Rattle.stk_path_runs.specs.declared.slots.Slots.{Slots}
use Rattle.stk_path_runs.specs.declared.key_index.LoopKey.{LoopKey}
use Rattle.stk_path_runs.specs.declared.key_index.KeyIndex.{KeyIndex}

-- the place of the first element that passes a test
abbrev pub first_place : {A : Type 0} → (A → Bool) → List A → Option ℕ
first_place test [] = None
first_place test (x ∷ xs) = if test x then Some 0 else option_map suc (first_place test xs)

-- the place of a key
abbrev pub key_place : Key → List KeyInfo → Option ℕ
key_place key keys = first_place (λ x. same_key x.key key) keys

-- the number in a place, where there is one; 0 else
abbrev pub number_in : Option ℕ → List ℤ → ℤ
number_in None xs = pos 0
number_in (Some i) xs = get_or xs i (pos 0)

-- the place under a node
abbrev pub slot_in : Slots → ℕ → Option ℕ
slot_in s k = get_or s.list.items k None

-- the place that there is, or else another
abbrev pub first_of : Option ℕ → ℕ → Option ℕ
first_of None p = Some p
first_of (Some q) p = Some q

-- whether two keys of loops are one
abbrev pub same_loop : LoopKey → LoopKey → Bool
same_loop a b = nat_eq a.node b.node && nat_eq a.register b.register

-- an index has for each key its place among those of a list
pub record IsKeyIndex (index : KeyIndex) (keys : List KeyInfo) : Type 0 where
  pub parameters : (k : ℕ) → slot_in index.parameters k ≡ key_place (parameter_key k) keys
  pub addresses : (k : ℕ) → slot_in index.addresses k ≡ key_place (address_key k) keys
  pub unset : (k : ℕ) → slot_in index.unset k ≡ key_place (unset_key k) keys
  pub loads : (k : ℕ) → slot_in index.loads k ≡ key_place (load_key k) keys
  pub calls : (k : ℕ) → slot_in index.calls k ≡ key_place (call_key k) keys
  pub loops : (q : LoopKey) → get same_loop index.loops q ≡ key_place (loop_key q.node q.register) keys
