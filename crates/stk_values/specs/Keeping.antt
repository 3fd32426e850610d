-- What each call of a store of values keeps, and the number of a test.
use Rattle.std.specs.Prelude.{ℕ, Bool, ℤ, pos, List, if◌then◌else◌}
use Rattle.std.proofs.Common.{◌≡◌, sym, ◌∙◌}
use Rattle.stk_ctype.specs.declared.kind.IntKind.{IntKind}

-- 1 for true, 0 for false
abbrev pub truth : Bool → ℤ
truth b = if b then pos 1 else pos 0

-- the same maps are served and the same keys are there, and what was made before is still made and has its numbers
pub record Keeps {S V : Type 0} (serves : S → List ℤ → Type 0) (has_key : S → ℕ → IntKind → Type 0) (made : S → IntKind → V → Type 0) (shows : S → List ℤ → IntKind → V → ℤ → Type 0) (old new : S) : Type 0 where
  pub served : (m : List ℤ) → serves old m → serves new m
  pub served_before : (m : List ℤ) → serves new m → serves old m
  pub keys : (key : ℕ) (k : IntKind) → has_key old key k → has_key new key k
  pub keys_before : (key : ℕ) (k : IntKind) → has_key new key k → has_key old key k
  pub made_still : (k : IntKind) (v : V) → made old k v → made new k v
  pub shown : (m : List ℤ) (k : IntKind) (v : V) (z : ℤ) → shows old m k v z → shows new m k v z

-- two numbers that are one number are the same
pub alike : (x y v : ℤ) → x ≡ v → y ≡ v → x ≡ y
alike x y v p q = p ∙ sym q
