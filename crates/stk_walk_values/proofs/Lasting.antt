-- What lasts from store to store.
use Rattle.std.proofs.Common.{ℕ, List, ℤ, pos, Option, Some, None, get_or}
use Rattle.stk_ctype.specs.declared.kind.IntKind.{IntKind}
use Rattle.stk_meaning.specs.Libraries.{Library}
use Rattle.stk_meaning.specs.Places.{Setting}
use Rattle.stk_values.specs.Keeping.{Keeps}
use Rattle.stk_guarded.specs.Standing.{Standing}
use Rattle.stk_walking.specs.declared.state.WalkState.{WalkState}
use Rattle.stk_walking.specs.declared.node_tests.Operands.{Operands}
use Rattle.stk_walking.specs.NodeTests.{OperandsMade, OperandsShow}
use Rattle.stk_walking.specs.Stands.{Stands, IsMade}
use Rattle.stk_walk_values.specs.declared.calls.Arguments.{Arguments}
use Rattle.stk_walk_values.specs.Arguments.{ArgumentsShow}
use Rattle.stk_walking.proofs.Carried.{keeps_then, is_made_still, stands_still}

module _ {S V : Type 0} {serves : S → List ℤ → Type 0} {has_key : S → ℕ → IntKind → Type 0} {made : S → IntKind → V → Type 0} {shows : S → List ℤ → IntKind → V → ℤ → Type 0} where
  pub both_keep : {a b c : S} → Keeps serves has_key made shows a b → Keeps serves has_key made shows b c → Keeps serves has_key made shows a c
  both_keep {a} {b} {c} h k = keeps_then serves has_key made shows a b c h k

  pub still_made : {a b : S} {g : Setting} {w : WalkState V} → Keeps serves has_key made shows a b → IsMade (made a) g w → IsMade (made b) g w
  still_made {a} {b} {g} {w} k i = is_made_still (made a) (made b) k.made_still g w i

  pub still_stands : {a b : S} {g : Setting} {w : WalkState V} {s : Standing} → Keeps serves has_key made shows a b → (m : List ℤ) → Stands (shows a m) g w s → Stands (shows b m) g w s
  still_stands {a} {b} {g} {w} {s} k m at = stands_still (shows a m) (shows b m) (k.shown m) g w s at

-- ---- the arguments of a call

pub operands_made : {V : Type 0} (f h : IntKind → V → Type 0) → ((k : IntKind) (v : V) → f k v → h k v) → (xs : Operands V) → OperandsMade f xs → OperandsMade h xs
operands_made f h keep xs a = record { first = keep _ _ a.first; second = keep _ _ a.second; third = keep _ _ a.third }

pub operands_shown : {V : Type 0} (f h : IntKind → V → ℤ → Type 0) → ((k : IntKind) (v : V) (z : ℤ) → f k v z → h k v z) → (xs : Operands V) (x y z : ℤ) → OperandsShow f xs x y z → OperandsShow h xs x y z
operands_shown f h keep xs x y z a = record { first = keep _ _ _ a.first; second = keep _ _ _ a.second; third = keep _ _ _ a.third }

pub arguments_shown : {V : Type 0} (f h : IntKind → V → ℤ → Type 0) → ((k : IntKind) (v : V) (z : ℤ) → f k v z → h k v z) → (library : Option Library) (xs : Arguments V) (numbers : List ℤ) → ArgumentsShow f library xs numbers → ArgumentsShow h library xs numbers
arguments_shown f h keep None xs numbers a = a
arguments_shown f h keep (Some l) xs numbers a = record { count = a.count; operands = operands_shown f h keep xs.operands (get_or numbers 0 (pos 0)) (get_or numbers 1 (pos 0)) (get_or numbers 2 (pos 0)) a.operands }
