-- What a term is: a width, and for residues of the inputs a number below 2 to this width.
use Rattle.std.specs.Prelude.{ℕ, zero, suc, ◌+◌, ◌-◌, ◌*◌, ◌/◌, ◌%◌, ◌^◌, Bool, List, [], ◌∷◌, ◌++◌, ℤ, pos, ◌-ℤ◌, get_or, nat_eq, nat_lt, int_lt, bit_and, bit_or, bit_xor, if◌then◌else◌}
use Rattle.stk_terms.specs.declared.term.TermOp.{TermOp}
use Rattle.stk_terms.specs.declared.term.TermOp.TheVariants.{Constant, Input, Not, Neg, And, Or, Xor, Add, Sub, Mul, UDiv, URem, Shl, LShr, AShr, Eq, ULt, SLt, Extract, ZeroExt, SignExt, Concat, Ite}
use Rattle.stk_terms.specs.declared.term.TermId.{TermId}
use Rattle.stk_terms.specs.Terms.{Term, Stored}

-- 1 for true, 0 for false
abbrev pub bit : Bool → ℕ
bit b = if b then 1 else 0

-- whether the top one of w bits is 0
abbrev pub is_positive : ℕ → ℕ → Bool
is_positive w x = nat_lt x (2 ^ (w - 1))

-- the number of w bits as a signed number, in two's complement
abbrev pub signed : ℕ → ℕ → ℤ
signed w x = if is_positive w x then pos x else pos x -ℤ pos (2 ^ w)

-- the number of w bits with its top bit copied in front, up to v bits
abbrev pub extended : ℕ → ℕ → ℕ → ℕ
extended w v x = if is_positive w x then x else x + (2 ^ v - 2 ^ w)

-- w times the top one of w bits
abbrev pub sign_bits : ℕ → ℕ → ℕ
sign_bits w x = if is_positive w x then 0 else 2 ^ w - 1

-- the width of an operator, by the widths of the inputs and of its first two arguments
abbrev pub width_by : List ℕ → TermOp → ℕ → ℕ → ℕ
width_by inputs (Constant w n) w0 w1 = w
width_by inputs (Input k) w0 w1 = get_or inputs k 0
width_by inputs Not w0 w1 = w0
width_by inputs Neg w0 w1 = w0
width_by inputs And w0 w1 = w0
width_by inputs Or w0 w1 = w0
width_by inputs Xor w0 w1 = w0
width_by inputs Add w0 w1 = w0
width_by inputs Sub w0 w1 = w0
width_by inputs Mul w0 w1 = w0
width_by inputs UDiv w0 w1 = w0
width_by inputs URem w0 w1 = w0
width_by inputs Shl w0 w1 = w0
width_by inputs LShr w0 w1 = w0
width_by inputs AShr w0 w1 = w0
width_by inputs Eq w0 w1 = 1
width_by inputs ULt w0 w1 = 1
width_by inputs SLt w0 w1 = 1
width_by inputs (Extract low w) w0 w1 = w
width_by inputs (ZeroExt w) w0 w1 = w
width_by inputs (SignExt w) w0 w1 = w
width_by inputs Concat w0 w1 = w0 + w1
width_by inputs Ite w0 w1 = w1

-- the number of an operator, by the residues of the inputs, the widths of its first two arguments and the numbers of
-- all three
abbrev pub number_by : List ℕ → TermOp → ℕ → ℕ → ℕ → ℕ → ℕ → ℕ
number_by residues (Constant w n) w0 w1 x y z = n
number_by residues (Input k) w0 w1 x y z = get_or residues k 0
number_by residues Not w0 w1 x y z = 2 ^ w0 - 1 - x
number_by residues Neg w0 w1 x y z = (2 ^ w0 - x) % 2 ^ w0
number_by residues And w0 w1 x y z = bit_and x y
number_by residues Or w0 w1 x y z = bit_or x y
number_by residues Xor w0 w1 x y z = bit_xor x y
number_by residues Add w0 w1 x y z = (x + y) % 2 ^ w0
number_by residues Sub w0 w1 x y z = (x + (2 ^ w0 - y)) % 2 ^ w0
number_by residues Mul w0 w1 x y z = (x * y) % 2 ^ w0
number_by residues UDiv w0 w1 x y z = if nat_eq y 0 then 0 else x / y
number_by residues URem w0 w1 x y z = if nat_eq y 0 then x else x % y
number_by residues Shl w0 w1 x y z = if nat_lt y w0 then (x * 2 ^ y) % 2 ^ w0 else 0
number_by residues LShr w0 w1 x y z = if nat_lt y w0 then x / 2 ^ y else 0
number_by residues AShr w0 w1 x y z = if nat_lt y w0 then extended (w0 - y) w0 (x / 2 ^ y) else sign_bits w0 x
number_by residues Eq w0 w1 x y z = bit (nat_eq x y)
number_by residues ULt w0 w1 x y z = bit (nat_lt x y)
number_by residues SLt w0 w1 x y z = bit (int_lt (signed w0 x) (signed w0 y))
number_by residues (Extract low w) w0 w1 x y z = x / 2 ^ low % 2 ^ w
number_by residues (ZeroExt w) w0 w1 x y z = x
number_by residues (SignExt w) w0 w1 x y z = extended w0 w x
number_by residues Concat w0 w1 x y z = x * 2 ^ w1 + y
number_by residues Ite w0 w1 x y z = if nat_eq x 1 then y else z

-- a number of some width
pub record Bits : Type 0 where
  pub width : ℕ
  pub number : ℕ

-- no bits, for an argument that isn't there
abbrev pub none : Bits
none = record { width = 0; number = 0 }

-- what stands in the list for the k-th argument
abbrev pub arg_at : {A : Type 0} → A → List A → List TermId → ℕ → A
arg_at d done [] k = d
arg_at d done (a ∷ args) zero = get_or done a.0 d
arg_at d done (a ∷ args) (suc k) = arg_at d done args k

-- what each term is, by a step from what the earlier terms are
abbrev pub evaluated : {A : Type 0} → (List A → Term → A) → List A → List Term → List A
evaluated step done [] = done
evaluated step done (t ∷ ts) = evaluated step (done ++ step done t ∷ []) ts

-- the width of a term behind terms of the widths ws
abbrev pub width_of : List ℕ → List ℕ → Term → ℕ
width_of inputs ws t = width_by inputs t.op (arg_at 0 ws t.args 0) (arg_at 0 ws t.args 1)

-- the widths of the terms
abbrev pub widths_of : Stored → List ℕ
widths_of s = evaluated (width_of s.inputs) [] s.terms

-- the width and the number of a term behind terms that are these bits
abbrev pub bits_of : List ℕ → List ℕ → List Bits → Term → Bits
bits_of inputs residues done t = record {
  width = width_by inputs t.op (arg_at none done t.args 0).width (arg_at none done t.args 1).width;
  number = number_by residues t.op (arg_at none done t.args 0).width (arg_at none done t.args 1).width (arg_at none done t.args 0).number (arg_at none done t.args 1).number (arg_at none done t.args 2).number;
}

-- the widths and numbers of the terms for residues of the inputs
abbrev pub meanings : Stored → List ℕ → List Bits
meanings s residues = evaluated (bits_of s.inputs residues) [] s.terms

-- the width and the number of the term at a place
abbrev pub meaning : Stored → List ℕ → ℕ → Bits
meaning s residues i = get_or (meanings s residues) i none

-- the width of the term at a place
abbrev pub width_at : Stored → ℕ → ℕ
width_at s i = get_or (widths_of s) i 0

-- the number of the term at a place for residues of the inputs
abbrev pub number_at : Stored → List ℕ → ℕ → ℕ
number_at s residues i = (meaning s residues i).number
