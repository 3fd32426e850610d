-- Which arguments and widths fit an operator.
use Rattle.std.specs.Prelude.{◌≡◌, ℕ, ◌+◌, ◌<◌, ◌≤◌, ◌^◌, List, [], ◌∷◌, ◌++◌, length}
use Rattle.stk_terms.specs.declared.term.TermOp.{TermOp}
use Rattle.stk_terms.specs.declared.term.TermOp.TheVariants.{Constant, Input, Not, Neg, And, Or, Xor, Add, Sub, Mul, UDiv, URem, Shl, LShr, AShr, Eq, ULt, SLt, Extract, ZeroExt, SignExt, Concat, Ite}
use Rattle.stk_terms.specs.declared.term.TermId.{TermId}
use Rattle.stk_terms.specs.Terms.{Term, Stored}
use Rattle.stk_terms.specs.Values.{width_of, widths_of, arg_at}

-- how many arguments an operator has
abbrev pub arity : TermOp → ℕ
arity (Constant w n) = 0
arity (Input k) = 0
arity Not = 1
arity Neg = 1
arity And = 2
arity Or = 2
arity Xor = 2
arity Add = 2
arity Sub = 2
arity Mul = 2
arity UDiv = 2
arity URem = 2
arity Shl = 2
arity LShr = 2
arity AShr = 2
arity Eq = 2
arity ULt = 2
arity SLt = 2
arity (Extract low w) = 1
arity (ZeroExt w) = 1
arity (SignExt w) = 1
arity Concat = 2
arity Ite = 3

-- the widths of the arguments, and the numbers in the operator, fit it
abbrev pub WidthsFit : List ℕ → TermOp → ℕ → ℕ → ℕ → Type 0
WidthsFit inputs (Constant w n) w0 w1 w2 = (1 ≤ w) × (w ≤ 128) × (n < 2 ^ w)
WidthsFit inputs (Input k) w0 w1 w2 = k < length inputs
WidthsFit inputs Not w0 w1 w2 = Unit
WidthsFit inputs Neg w0 w1 w2 = Unit
WidthsFit inputs And w0 w1 w2 = w0 ≡ w1
WidthsFit inputs Or w0 w1 w2 = w0 ≡ w1
WidthsFit inputs Xor w0 w1 w2 = w0 ≡ w1
WidthsFit inputs Add w0 w1 w2 = w0 ≡ w1
WidthsFit inputs Sub w0 w1 w2 = w0 ≡ w1
WidthsFit inputs Mul w0 w1 w2 = w0 ≡ w1
WidthsFit inputs UDiv w0 w1 w2 = w0 ≡ w1
WidthsFit inputs URem w0 w1 w2 = w0 ≡ w1
WidthsFit inputs Shl w0 w1 w2 = w0 ≡ w1
WidthsFit inputs LShr w0 w1 w2 = w0 ≡ w1
WidthsFit inputs AShr w0 w1 w2 = w0 ≡ w1
WidthsFit inputs Eq w0 w1 w2 = w0 ≡ w1
WidthsFit inputs ULt w0 w1 w2 = w0 ≡ w1
WidthsFit inputs SLt w0 w1 w2 = w0 ≡ w1
WidthsFit inputs (Extract low w) w0 w1 w2 = (1 ≤ w) × (low + w ≤ w0)
WidthsFit inputs (ZeroExt w) w0 w1 w2 = (w0 ≤ w) × (w ≤ 128)
WidthsFit inputs (SignExt w) w0 w1 w2 = (w0 ≤ w) × (w ≤ 128)
WidthsFit inputs Concat w0 w1 w2 = w0 + w1 ≤ 128
WidthsFit inputs Ite w0 w1 w2 = (w0 ≡ 1) × (w1 ≡ w2)

-- the arguments are among the first n terms
abbrev pub AreBelow : ℕ → List TermId → Type 0
AreBelow n [] = Unit
AreBelow n (a ∷ args) = (a.0 < n) × AreBelow n args

-- the term t fits behind terms of the widths ws
pub record Fits (inputs ws : List ℕ) (t : Term) : Type 0 where
  pub arity_is : length t.args ≡ arity t.op
  pub exist : AreBelow (length ws) t.args
  pub widths_fit : WidthsFit inputs t.op (arg_at 0 ws t.args 0) (arg_at 0 ws t.args 1) (arg_at 0 ws t.args 2)

-- each term fits behind the earlier ones, the first one behind terms of the widths ws
abbrev pub FitBehind : List ℕ → List ℕ → List Term → Type 0
FitBehind inputs ws [] = Unit
FitBehind inputs ws (t ∷ ts) = Fits inputs ws t × FitBehind inputs (ws ++ width_of inputs ws t ∷ []) ts

-- each term's arguments stand before it, the first term being the n-th
abbrev pub AreBehind : ℕ → List Term → Type 0
AreBehind n [] = Unit
AreBehind n (t ∷ ts) = AreBelow n t.args × AreBehind (n + 1) ts

-- the widths of inputs are from 1 to 64
abbrev pub AreWidths : List ℕ → Type 0
AreWidths [] = Unit
AreWidths (w ∷ ws) = (1 ≤ w) × (w ≤ 64) × AreWidths ws

-- one residue for each input, below 2 to the input's width
abbrev pub AreResidues : List ℕ → List ℕ → Type 0
AreResidues [] [] = Unit
AreResidues (w ∷ ws) (r ∷ rs) = (r < 2 ^ w) × AreResidues ws rs
AreResidues _ _ = ⊥

-- the term t can be made in the store: its arguments exist, and fit its operator in number and widths
pub record CanMake (s : Stored) (t : Term) : Type 0 where
  pub arity_is : length t.args ≡ arity t.op
  pub exist : AreBelow (length s.terms) t.args
  pub widths_fit : WidthsFit s.inputs t.op (arg_at 0 (widths_of s) t.args 0) (arg_at 0 (widths_of s) t.args 1) (arg_at 0 (widths_of s) t.args 2)

-- the inputs have widths from 1 to 64, and the terms fit one behind the other: what each store keeps
pub record IsSound (s : Stored) : Type 0 where
  pub widths_are : AreWidths s.inputs
  pub fit : FitBehind s.inputs [] s.terms
