-- A residue below 2 to the width of a kind, converted to the kind, is the number that it stands for.
use Rattle.std.proofs.Common.{◌≡◌, ℕ, zero, suc, ◌^◌, ◌<◌, pos, refl, ap, arith}
use Rattle.std.proofs.Math.Nat.{mod-eq_of_lt}
use Rattle.stk_ctype.specs.declared.kind.IntKind.{IntKind}
use Rattle.stk_ctype.specs.declared.kind.IntKind.TheVariants as kind
use Rattle.stk_numbers.specs.Kinds.{width_of, wrap}
use Rattle.stk_values.specs.Standing.{stands}

truth : (n : ℕ) → n < 2 → wrap kind.Bool (pos n) ≡ pos n
truth zero h = refl
truth (suc zero) h = refl
truth (suc (suc n)) h = absurd (omega (arith, h))

pub wraps : (k : IntKind) (n : ℕ) → n < 2 ^ width_of k → wrap k (pos n) ≡ stands k n
wraps kind.Bool n h = truth n h
wraps kind.Char n h = ap (stands kind.Char) (mod-eq_of_lt h)
wraps kind.SChar n h = ap (stands kind.SChar) (mod-eq_of_lt h)
wraps kind.UChar n h = ap (stands kind.UChar) (mod-eq_of_lt h)
wraps kind.Short n h = ap (stands kind.Short) (mod-eq_of_lt h)
wraps kind.UShort n h = ap (stands kind.UShort) (mod-eq_of_lt h)
wraps kind.Int n h = ap (stands kind.Int) (mod-eq_of_lt h)
wraps kind.UInt n h = ap (stands kind.UInt) (mod-eq_of_lt h)
wraps kind.Long n h = ap (stands kind.Long) (mod-eq_of_lt h)
wraps kind.ULong n h = ap (stands kind.ULong) (mod-eq_of_lt h)
wraps kind.LLong n h = ap (stands kind.LLong) (mod-eq_of_lt h)
wraps kind.ULLong n h = ap (stands kind.ULLong) (mod-eq_of_lt h)
