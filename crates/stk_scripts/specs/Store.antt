-- What the store of terms gives for shifts and for copies of the sign bit, in its own words, which split at the width:
-- the table of scripts gives the same.
use Rattle.std.specs.Prelude.{◌≡◌, ℕ, ◌<◌, ◌≤◌, ◌+◌, ◌-◌, ◌*◌, ◌/◌, ◌%◌, ◌^◌, nat_lt, if◌then◌else◌}
use Rattle.stk_scripts.specs.declared.operators.BinaryOp.TheVariants as binary
use Rattle.stk_scripts.specs.declared.operators.ExtendOp.TheVariants as extend
use Rattle.stk_scripts.specs.Table.{binary_number, extended_number}

-- a number with copies of its sign bit in front
abbrev pub store_extended : ℕ → ℕ → ℕ → ℕ
store_extended w v x = if nat_lt x (2 ^ (w - 1)) then x else x + (2 ^ v - 2 ^ w)

-- the sign bit alone, at each place
abbrev pub store_signs : ℕ → ℕ → ℕ
store_signs w x = if nat_lt x (2 ^ (w - 1)) then 0 else 2 ^ w - 1

-- the table of scripts gives the same
pub record TablesAgree : Type 0 where
  pub shl : (w x y : ℕ) → x < 2 ^ w → (if nat_lt y w then (x * 2 ^ y) % 2 ^ w else 0) ≡ binary_number binary.Shl w x y
  pub lshr : (w x y : ℕ) → x < 2 ^ w → (if nat_lt y w then x / 2 ^ y else 0) ≡ binary_number binary.LShr w x y
  pub ashr : (w x y : ℕ) → 1 ≤ w → x < 2 ^ w → (if nat_lt y w then store_extended (w - y) w (x / 2 ^ y) else store_signs w x) ≡ binary_number binary.AShr w x y
  pub sign : (w v x : ℕ) → 1 ≤ w → w ≤ v → store_extended w v x ≡ extended_number extend.Sign w (v - w) x
