-- Watch lists: lists of numbers that share none.
use Rattle.std.specs.Prelude.{◌≡◌, ℕ, ◌<◌, List, [], ◌∷◌, slice_index_or}
use Rattle.std.specs.List.{Contains}

-- each chain as a list, and how many numbers there are
pub record Chained : Type 0 where
  pub chains : List (List ℕ)
  pub numbers : ℕ

-- no number stands twice
abbrev pub AreOnce : List ℕ → Type 0
AreOnce [] = Unit {0}
AreOnce (x ∷ xs) = (Contains xs x → ⊥) × AreOnce xs

-- the chains hold existing numbers, each at most once, and in one chain
pub record AreApart (c : Chained) : Type 0 where
  pub within : (l x : ℕ) → Contains (slice_index_or c.chains l []) x → x < c.numbers
  pub once : (l : ℕ) → AreOnce (slice_index_or c.chains l [])
  pub one_chain : (l m x : ℕ) → Contains (slice_index_or c.chains l []) x → Contains (slice_index_or c.chains m []) x → l ≡ m
