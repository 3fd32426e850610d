-- Memory objects at addresses, and whether these are valid.
use Rattle.std.specs.Prelude.{ℕ, ◌+◌, ◌-◌, ◌^◌, ◌==◌, Bool, not, ◌&&◌, ◌||◌, nat_lt, nat_le, List}
use Rattle.std.specs.List.{list_all}
use Rattle.stk_meaning.specs.Typings.{is_among}
use Rattle.stk_meaning.specs.Keys.{Object}
use Rattle.stk_first_maps.specs.declared.placed.PlacedObject.{PlacedObject}

-- an object, where these are kept and a function gives the addresses
abbrev pub placed_object : List ℕ → (ℕ → ℕ) → Object → PlacedObject
placed_object kept a o = record { node = o.node; size = o.size; is_kept = is_among o.node kept; is_plain = o.is_plain; address = a o.node }

-- an object lies in memory: its first byte isn't at 0, and it ends before the last address
abbrev pub lies_in_memory : PlacedObject → Bool
lies_in_memory o = nat_le 1 o.address && nat_le (o.address + o.size) (2 ^ 64 - 1)

-- two objects share a byte
abbrev pub shares_byte : PlacedObject → PlacedObject → Bool
shares_byte o p = nat_lt o.address (p.address + p.size) && nat_lt p.address (o.address + o.size)

-- what an object asks of another: it is the same, it has no name or no scalar or struct type, or they share no byte
abbrev pub is_apart : PlacedObject → PlacedObject → Bool
is_apart o p = o.node == p.node || (not p.is_plain || not (shares_byte o p))

-- an object lies in memory, and stands apart from all where it is kept
abbrev pub is_placed : List PlacedObject → PlacedObject → Bool
is_placed all o = lies_in_memory o && (not o.is_kept || list_all (is_apart o) all)

abbrev pub are_placed : List PlacedObject → Bool
are_placed all = list_all (is_placed all) all
