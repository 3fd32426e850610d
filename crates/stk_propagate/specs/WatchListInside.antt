-- What the fields of chains hold.
use Rattle.std.specs.Prelude.{◌≡◌, ℕ, zero, suc, ◌<◌, ◌≤◌, List, [], ◌∷◌, length, map, nat_lt, if◌then◌else◌, slice_index, slice_index_or}
use Rattle.stk_propagate.specs.declared.watch_lists.WatchLists.TheInside.{Inside}
use Rattle.stk_propagate.specs.WatchLists.{Chained, AreApart}

-- at most so many numbers, from this one on, each with the one behind it
abbrev pub chain_from : List ℕ → ℕ → ℕ → List ℕ
chain_from nexts zero at = []
chain_from nexts (suc n) at = if nat_lt at (length nexts) then at ∷ chain_from nexts n (slice_index nexts at) else []

abbrev pub seen_as : Inside → Chained
seen_as f = record { chains = map (chain_from f.nexts.items (length f.nexts.items)) f.firsts.items; numbers = length f.nexts.items }

-- the chain from this number on is the list, and ends
abbrev pub IsChain : List ℕ → ℕ → List ℕ → Type 0
IsChain nexts at [] = at ≡ 4294967295
IsChain nexts at (x ∷ xs) = (at ≡ x) × (x < length nexts) × IsChain nexts (slice_index nexts x) xs

-- each chain from its first number on is the list
abbrev pub AreChains : List ℕ → List ℕ → List (List ℕ) → Type 0
AreChains firsts nexts chains = (l : ℕ) → l < length firsts → IsChain nexts (slice_index firsts l) (slice_index_or chains l [])

pub record IsInside (f : Inside) : Type 0 where
  pub few : length f.nexts.items ≤ 4294967295
  pub each : AreChains f.firsts.items f.nexts.items (seen_as f).chains
  pub apart : AreApart (seen_as f)
