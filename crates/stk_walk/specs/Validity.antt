-- Whether the addresses of a function's memory objects are valid, object by object and pair by pair (C11 6.2.4,
-- 6.5.3.2: objects lie in memory and have addresses).
use Rattle.std.specs.Prelude.{ℕ, ◌+◌, ◌-◌, ◌^◌, ◌==◌, ◌≡◌, Bool, true, false, not, ◌&&◌, ◌||◌, if◌then◌else◌, nat_le, nat_lt, List, [], ◌∷◌}
use Rattle.stk_meaning.specs.Typings.{is_among}
use Rattle.stk_meaning.specs.Keys.{Object}
use Rattle.stk_walk.specs.declared.objects.WalkObject.{WalkObject}

-- an object of a function, where these are kept
abbrev pub walk_object : List ℕ → Object → WalkObject
walk_object kept o = record { node = o.node; size = o.size; is_kept = is_among o.node kept; is_plain = o.is_plain }

-- an object lies in memory: its first byte isn't at 0, and it ends before the last address
abbrev pub lies_in_memory : (ℕ → ℕ) → WalkObject → Bool
lies_in_memory a o = nat_le 1 (a o.node) && nat_le (a o.node + o.size) (2 ^ 64 - 1)

abbrev pub all_lie : (ℕ → ℕ) → List WalkObject → Bool
all_lie a [] = true
all_lie a (o ∷ os) = lies_in_memory a o && all_lie a os

-- two objects must share no byte: one is kept, and the other has a name and a scalar or struct type
abbrev pub is_pair : WalkObject → WalkObject → Bool
is_pair o p = (o.is_kept && p.is_plain) || (p.is_kept && o.is_plain)

-- how many pairs an object makes with others, and how many there are among objects
abbrev pub pairs_with : WalkObject → List WalkObject → ℕ
pairs_with o [] = 0
pairs_with o (p ∷ ps) = (if is_pair o p then 1 else 0) + pairs_with o ps

abbrev pub pairs_in : List WalkObject → ℕ
pairs_in [] = 0
pairs_in (o ∷ os) = pairs_with o os + pairs_in os

-- two objects share a byte, where the end of each is given by a function
abbrev pub share : (ℕ → ℕ) → (WalkObject → ℕ) → WalkObject → WalkObject → Bool
share a end o p = nat_lt (a o.node) (end p) && nat_lt (a p.node) (end o)

-- an object shares no byte with those behind it that it is a pair with, and so does each
abbrev pub stands_apart : (ℕ → ℕ) → (WalkObject → ℕ) → WalkObject → List WalkObject → Bool
stands_apart a end o [] = true
stands_apart a end o (p ∷ ps) = not (is_pair o p && share a end o p) && stands_apart a end o ps

abbrev pub all_apart : (ℕ → ℕ) → (WalkObject → ℕ) → List WalkObject → Bool
all_apart a end [] = true
all_apart a end (o ∷ os) = stands_apart a end o os && all_apart a end os

-- the end of an object, and that modulo 2^64, which is the same of an object that lies in memory
abbrev pub end_of : (ℕ → ℕ) → WalkObject → ℕ
end_of a o = a o.node + o.size

abbrev pub addresses_valid : (ℕ → ℕ) → List WalkObject → Bool
addresses_valid a os = all_lie a os && all_apart a (end_of a) os

-- objects that are at different nodes
abbrev pub IsOther : Object → List Object → Type 0
IsOther o [] = Unit {0}
IsOther o (p ∷ ps) = ((o.node == p.node) ≡ false) × IsOther o ps

abbrev pub AreDistinct : List Object → Type 0
AreDistinct [] = Unit {0}
AreDistinct (o ∷ os) = IsOther o os × AreDistinct os
