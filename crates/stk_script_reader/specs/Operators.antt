-- Which operators of the store are those of scripts.
use Rattle.std.specs.Prelude.{◌≡◌, ℕ, ◌<◌, List, length, Option, Some, None}
use Rattle.stk_terms.specs.declared.term.TermOp.{TermOp}
use Rattle.stk_terms.specs.declared.term.TermOp.TheVariants.{Not, Neg, And, Or, Xor, Add, Sub, Mul, URem, Shl, LShr, AShr, Eq, ULt, SLt, ZeroExt, SignExt}
use Rattle.stk_terms.specs.Terms.{Stored}
use Rattle.stk_terms.specs.Fitting.{AreResidues}
use Rattle.stk_terms.specs.Values.{width_at, number_at}
use Rattle.stk_scripts.specs.declared.operators.UnaryOp.{UnaryOp}
use Rattle.stk_scripts.specs.declared.operators.UnaryOp.TheVariants as unary
use Rattle.stk_scripts.specs.declared.operators.BinaryOp.{BinaryOp}
use Rattle.stk_scripts.specs.declared.operators.BinaryOp.TheVariants as binary
use Rattle.stk_scripts.specs.declared.operators.ExtendOp.{ExtendOp}
use Rattle.stk_scripts.specs.declared.operators.ExtendOp.TheVariants as extend
use Rattle.stk_scripts.specs.declared.operators.TestOp.{TestOp}
use Rattle.stk_scripts.specs.declared.operators.TestOp.TheVariants as test
use Rattle.stk_scripts.specs.Table.{binary_number}

abbrev pub unary_term : UnaryOp → TermOp
unary_term unary.Not = Not
unary_term unary.Neg = Neg

-- but for the quotient, which by 0 differs
abbrev pub plain_term : BinaryOp → Option TermOp
plain_term binary.And = Some And
plain_term binary.Or = Some Or
plain_term binary.Xor = Some Xor
plain_term binary.Add = Some Add
plain_term binary.Sub = Some Sub
plain_term binary.Mul = Some Mul
plain_term binary.UDiv = None
plain_term binary.URem = Some URem
plain_term binary.Shl = Some Shl
plain_term binary.LShr = Some LShr
plain_term binary.AShr = Some AShr

abbrev pub test_term : TestOp → TermOp
test_term test.Equal = Eq
test_term test.Below = ULt
test_term test.SignedBelow = SLt

abbrev pub extend_term : ExtendOp → ℕ → TermOp
extend_term extend.Zero w = ZeroExt w
extend_term extend.Sign w = SignExt w

-- the term at a place is an operator of two others, in the words of scripts
pub record IsApplied (s : Stored) (op : BinaryOp) (a b j : ℕ) : Type 0 where
  pub there : j < length s.terms
  pub wide : width_at s j ≡ width_at s a
  pub value : (r : List ℕ) → AreResidues s.inputs r → number_at s r j ≡ binary_number op (width_at s a) (number_at s r a) (number_at s r b)
