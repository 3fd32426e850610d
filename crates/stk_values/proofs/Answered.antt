-- The numbers that calls answer are in the ranges of their kinds.
use Rattle.std.proofs.Common.{◌≡◌, ℤ, true, ap, ◌∙◌, to_z, of_z}
use mir.Syntax.{w128}
use Rattle.stk_ctype.specs.declared.kind.IntKind.{IntKind}
use Rattle.stk_numbers.specs.declared.operators.ArithOp.{ArithOp}
use Rattle.stk_numbers.specs.declared.operators.ShiftOp.{ShiftOp}
use Rattle.stk_numbers.specs.Kinds.{fits, wrap}
use Rattle.stk_numbers.specs.Values.{exact, arith as arith_of, shifted}
use Rattle.stk_numbers.proofs.Machine.{shown, same}
use Rattle.stk_numbers.proofs.Wrapping.{wrap_in_range}
use Rattle.stk_numbers.proofs.Ranges.{shift_in_range}

pub wrapped_fits : (k : IntKind) (z r : ℤ) → r ≡ wrap k z → fits k (to_z w128 (of_z w128 r)) ≡ true
wrapped_fits k z r h = ap (fits k) (shown k z r h) ∙ wrap_in_range k z

pub arith_fits : (op : ArithOp) (k : IntKind) (x y r : ℤ) → r ≡ arith_of op k x y → fits k (to_z w128 (of_z w128 r)) ≡ true
arith_fits op k x y r h = wrapped_fits k (exact op k x y) r h

-- the operand was read from a machine number, which is itself
pub shifted_fits : (op : ShiftOp) (k : IntKind) (x count r : ℤ) → fits k x ≡ true → r ≡ shifted op k (to_z w128 (of_z w128 x)) count → fits k (to_z w128 (of_z w128 r)) ≡ true
shifted_fits op k x count r inx h =
    let inr = ap (fits k) h ∙ shift_in_range op k (to_z w128 (of_z w128 x)) count (ap (fits k) (same k x inx) ∙ inx) in
    ap (fits k) (same k r inr) ∙ inr
