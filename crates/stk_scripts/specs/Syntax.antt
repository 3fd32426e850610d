-- Scripts of bit-vector terms as data: declarations, definitions and one assertion (SMT-LIB 2.6, the logic QF_BV; this
-- subset).
use Rattle.std.specs.Prelude.{ℕ, Bool, List, codes}
use Rattle.stk_scripts.specs.declared.operators.UnaryOp.{UnaryOp}
use Rattle.stk_scripts.specs.declared.operators.UnaryOp.TheVariants as unary
use Rattle.stk_scripts.specs.declared.operators.BinaryOp.{BinaryOp}
use Rattle.stk_scripts.specs.declared.operators.BinaryOp.TheVariants as binary
use Rattle.stk_scripts.specs.declared.operators.ExtendOp.{ExtendOp}
use Rattle.stk_scripts.specs.declared.operators.ExtendOp.TheVariants as extend
use Rattle.stk_scripts.specs.declared.operators.TestOp.{TestOp}
use Rattle.stk_scripts.specs.declared.operators.TestOp.TheVariants as test

-- A term: a name; a number of a width, width first; an operator on one or two terms; the bits of one term in front of
-- those of another; the bits from a high one down to a low one; a term with so many more bits in front; one of two
-- terms, by a comparison of two others.
pub data Expr : Type 0 where
  named : List ℕ → Expr
  literal : ℕ → ℕ → Expr
  one_of : UnaryOp → Expr → Expr
  two_of : BinaryOp → Expr → Expr → Expr
  joined : Expr → Expr → Expr
  cut : ℕ → ℕ → Expr → Expr
  widened : ExtendOp → ℕ → Expr → Expr
  chosen : TestOp → Expr → Expr → Expr → Expr → Expr

-- how operators are spelled
abbrev pub unary_name : UnaryOp → List ℕ
unary_name unary.Not = codes "bvnot"
unary_name unary.Neg = codes "bvneg"

abbrev pub binary_name : BinaryOp → List ℕ
binary_name binary.And = codes "bvand"
binary_name binary.Or = codes "bvor"
binary_name binary.Xor = codes "bvxor"
binary_name binary.Add = codes "bvadd"
binary_name binary.Sub = codes "bvsub"
binary_name binary.Mul = codes "bvmul"
binary_name binary.UDiv = codes "bvudiv"
binary_name binary.URem = codes "bvurem"
binary_name binary.Shl = codes "bvshl"
binary_name binary.LShr = codes "bvlshr"
binary_name binary.AShr = codes "bvashr"

abbrev pub extend_name : ExtendOp → List ℕ
extend_name extend.Zero = codes "zero_extend"
extend_name extend.Sign = codes "sign_extend"

abbrev pub test_name : TestOp → List ℕ
test_name test.Equal = codes "="
test_name test.Below = codes "bvult"
test_name test.SignedBelow = codes "bvslt"

-- an input: its name and its width
pub record Declared : Type 0 where
  pub name : List ℕ
  pub width : ℕ

-- a name for a term, and its width
pub record Defined : Type 0 where
  pub name : List ℕ
  pub width : ℕ
  pub body : Expr

-- whether the logic is said first; the inputs in order; the definitions in order; and what is asserted, a comparison of
-- two terms
pub record Script : Type 0 where
  pub has_logic : Bool
  pub declared : List Declared
  pub defined : List Defined
  pub test : TestOp
  pub left : Expr
  pub right : Expr
