-- Widths are at most 64.
use Rattle.std.proofs.Common.{ℕ, ◌*◌, ◌≤◌, arith}
use Rattle.std.proofs.Math.Nat.{mul-le-mul_left}
use Rattle.stk_ctype.specs.declared.kind.IntKind.{IntKind}
use Rattle.stk_ctype.specs.declared.kind.IntKind.TheVariants as kind
use Rattle.stk_numbers.specs.Kinds.{width_of}

pub narrow : (k : IntKind) → width_of k ≤ 64
narrow kind.Bool = omega arith
narrow kind.Char = omega arith
narrow kind.SChar = omega arith
narrow kind.UChar = omega arith
narrow kind.Short = omega arith
narrow kind.UShort = omega arith
narrow kind.Int = omega arith
narrow kind.UInt = omega arith
narrow kind.Long = omega arith
narrow kind.ULong = omega arith
narrow kind.LLong = omega arith
narrow kind.ULLong = omega arith

pub few_squares : (w : ℕ) → w ≤ 64 → 32 * w * w ≤ 131072
few_squares w h =
    let left : 32 * w * w ≤ 32 * w * 64 = mul-le-mul_left (32 * w) h in
    omega (arith, left)
