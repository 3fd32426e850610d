-- What an operator asks of the numbers that it is applied to.
use Rattle.std.specs.Prelude.{ℕ, ◌+◌, ◌<◌, ◌≤◌, ◌^◌, List, length}
use Rattle.stk_terms.specs.declared.term.TermOp.{TermOp}
use Rattle.stk_terms.specs.declared.term.TermOp.TheVariants.{Constant, Input, Not, Neg, And, Or, Xor, Add, Sub, Mul, UDiv, URem, Shl, LShr, AShr, Eq, ULt, SLt, Extract, ZeroExt, SignExt, Concat, Ite}

-- the first two arguments, x and y of the widths w0 and w1, are in the operator's range
abbrev pub CanApply : List ℕ → TermOp → ℕ → ℕ → ℕ → ℕ → Type 0
CanApply residues (Constant w n) w0 w1 x y = Unit
CanApply residues (Input k) w0 w1 x y = k < length residues
CanApply residues Not w0 w1 x y = (w0 ≤ 128) × (x < 2 ^ w0)
CanApply residues Neg w0 w1 x y = (w0 ≤ 128) × (x < 2 ^ w0)
CanApply residues And w0 w1 x y = Unit
CanApply residues Or w0 w1 x y = Unit
CanApply residues Xor w0 w1 x y = Unit
CanApply residues Add w0 w1 x y = w0 ≤ 128
CanApply residues Sub w0 w1 x y = (w0 ≤ 128) × (x < 2 ^ w0) × (y < 2 ^ w0)
CanApply residues Mul w0 w1 x y = w0 ≤ 128
CanApply residues UDiv w0 w1 x y = Unit
CanApply residues URem w0 w1 x y = Unit
CanApply residues Shl w0 w1 x y = w0 ≤ 128
CanApply residues LShr w0 w1 x y = w0 ≤ 128
CanApply residues AShr w0 w1 x y = (1 ≤ w0) × (w0 ≤ 128) × (x < 2 ^ w0)
CanApply residues Eq w0 w1 x y = Unit
CanApply residues ULt w0 w1 x y = Unit
CanApply residues SLt w0 w1 x y = (1 ≤ w0) × (w0 ≤ 128) × (x < 2 ^ w0) × (y < 2 ^ w0)
CanApply residues (Extract low w) w0 w1 x y = (low < 128) × (w ≤ 128)
CanApply residues (ZeroExt w) w0 w1 x y = Unit
CanApply residues (SignExt w) w0 w1 x y = (1 ≤ w0) × (w0 ≤ w) × (w ≤ 128) × (x < 2 ^ w0)
CanApply residues Concat w0 w1 x y = (1 ≤ w0) × (w0 + w1 ≤ 128) × (x < 2 ^ w0) × (y < 2 ^ w1)
CanApply residues Ite w0 w1 x y = Unit
