-- What the rules see of a term.
use Rattle.std.specs.Prelude.{ℕ, ◌-◌, ◌^◌, Bool, true, false, ◌&&◌, nat_eq}
use Rattle.stk_terms.specs.declared.term.TermOp.{TermOp}
use Rattle.stk_terms.specs.declared.term.TermOp.TheVariants.{Constant, Not, Neg, Add, Shl, LShr, AShr, Extract}
use Rattle.stk_terms.specs.Terms.{Stored, term_at, child}
use Rattle.stk_terms.specs.Values.{width_at}

-- whether the operator is a constant
abbrev pub is_constant : TermOp → Bool
is_constant (Constant w n) = true
is_constant _ = false

-- whether the operator is the constant n, of any width
abbrev pub is_number : ℕ → TermOp → Bool
is_number n (Constant w m) = nat_eq m n
is_number n _ = false

-- whether the operator is a constant all of whose bits are set
abbrev pub is_ones : TermOp → Bool
is_ones (Constant w m) = nat_eq m (2 ^ w - 1)
is_ones _ = false

-- whether the operator is Not
abbrev pub is_not : TermOp → Bool
is_not Not = true
is_not _ = false

-- whether the operator is Neg
abbrev pub is_neg : TermOp → Bool
is_neg Neg = true
is_neg _ = false

-- whether the operator is Add
abbrev pub is_add : TermOp → Bool
is_add Add = true
is_add _ = false

-- whether the operator is an Extract
abbrev pub is_extract : TermOp → Bool
is_extract (Extract low w) = true
is_extract _ = false

-- whether the operator is a shift
abbrev pub is_shift : TermOp → Bool
is_shift Shl = true
is_shift LShr = true
is_shift AShr = true
is_shift _ = false

-- a term as the rules see it: its place, width and operator, the place of its first argument, and whether it is a sum
-- with a constant
pub record Look : Type 0 where
  pub id : ℕ
  pub width : ℕ
  pub op : TermOp
  pub first : ℕ
  pub adds : Bool

-- whether the term is a sum whose second part is a constant
abbrev pub adds_constant : Stored → ℕ → Bool
adds_constant s i = is_add (term_at s i).op && is_constant (term_at s (child s i 1)).op

-- what the rules see of the term at a place
abbrev pub look : Stored → ℕ → Look
look s i = record { id = i; width = width_at s i; op = (term_at s i).op; first = child s i 0; adds = adds_constant s i }

-- the constant n of width w, at the place i
abbrev pub look_number : ℕ → ℕ → ℕ → Look
look_number i w n = record { id = i; width = w; op = Constant w n; first = 0; adds = false }
