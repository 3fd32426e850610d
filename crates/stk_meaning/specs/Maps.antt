-- Which input maps and which starts of executions are valid, and the order of input maps (C11 6.2.4, 6.5.3.2: objects
-- lie in memory and have addresses).
use Rattle.std.specs.Prelude.{ℕ, ◌+◌, ◌-◌, ◌^◌, ◌==◌, ◌<◌, ◌≡◌, ◌⊎◌, Bool, true, not, ◌&&◌, ◌||◌, nat_lt, nat_le, List, [], ◌∷◌, map, ℤ}
use Rattle.std.specs.List.{list_all}
use Rattle.stk_tree.specs.Syntax.{FunctionTree}
use Rattle.stk_numbers.specs.declared.conditions.Kinds.{Kinds}
use Rattle.stk_numbers.specs.Kinds.{width_of, fits, residue}
use Rattle.stk_meaning.specs.Typings.{Typing, declarator_node, number_kind, is_among}
use Rattle.stk_meaning.specs.Operations.{to_address}
use Rattle.stk_meaning.specs.Keys.{address_key, KeyInfo, keys_of, Object, objects_of, kept_of, register_parameters}
use Rattle.stk_meaning.specs.Paths.{InputMap, number_under}
use Rattle.stk_meaning.specs.Executions.{ExecutionStart}

-- an object lies in memory: its first byte isn't at 0, and it ends before the last address
abbrev pub lies_in_memory : (ℕ → ℕ) → Object → Bool
lies_in_memory a o = nat_le 1 (a o.node) && nat_le (a o.node + o.size) (2 ^ 64 - 1)

-- two objects share a byte
abbrev pub shares_byte : (ℕ → ℕ) → Object → Object → Bool
shares_byte a o p = nat_lt (a o.node) (a p.node + p.size) && nat_lt (a p.node) (a o.node + o.size)

-- an object shares no byte with another one that has a name and a scalar or struct type
abbrev pub stands_apart : (ℕ → ℕ) → List Object → Object → Bool
stands_apart a all o = list_all (λ p. o.node == p.node || (not p.is_plain || not (shares_byte a o p))) all

-- addresses are valid: each object lies in memory, and each kept one stands apart
abbrev pub are_valid : List ℕ → List Object → (ℕ → ℕ) → Bool
are_valid kept objects a = list_all (λ o. lies_in_memory a o && (not (is_among o.node kept) || stands_apart a objects o)) objects

-- a number in range for each key
abbrev pub AreInRange : List KeyInfo → List ℤ → Type 0
AreInRange [] [] = Unit {0}
AreInRange [] (x ∷ xs) = ⊥
AreInRange (k ∷ ks) [] = ⊥
AreInRange (k ∷ ks) (x ∷ xs) = (fits k.kind x ≡ true) × AreInRange ks xs

-- the addresses that an input map gives
abbrev pub addresses_in : InputMap → ℕ → ℕ
addresses_in inputs k = to_address (inputs (address_key k))

-- an input map is valid: it covers the keys, and its addresses are valid
pub record IsValid (ty : Typing) (without : Kinds) (f : FunctionTree) (numbers : List ℤ) : Type 0 where
  pub covers : AreInRange (keys_of ty without f) numbers
  pub apart : are_valid (kept_of ty without f) (objects_of ty without f) (addresses_in (number_under (keys_of ty without f) numbers)) ≡ true

-- an execution may start so: the numbers of its register parameters are in range, and its addresses are valid
pub record IsValidStart (ty : Typing) (without : Kinds) (f : FunctionTree) (start : ExecutionStart) : Type 0 where
  pub in_range : list_all (λ k. fits (number_kind (ty.type_at k)) (start.numbers k)) (map declarator_node (register_parameters ty f)) ≡ true
  pub apart : are_valid (kept_of ty without f) (objects_of ty without f) start.addresses ≡ true

-- one map comes before another: at the first key at which their residues differ it has the smaller one
abbrev pub residue_in : KeyInfo → ℤ → ℕ
residue_in k x = residue (width_of k.kind) x

abbrev pub Precedes : List KeyInfo → List ℤ → List ℤ → Type 0
Precedes [] xs ys = ⊥
Precedes (k ∷ ks) [] ys = ⊥
Precedes (k ∷ ks) (x ∷ xs) [] = ⊥
Precedes (k ∷ ks) (x ∷ xs) (y ∷ ys) = (residue_in k x < residue_in k y) ⊎ ((residue_in k x ≡ residue_in k y) × Precedes ks xs ys)
