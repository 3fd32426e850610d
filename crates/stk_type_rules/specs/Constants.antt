-- Constant expressions (C11 6.6): integer and character constants, enumerators and `sizeof` of types, under
-- parentheses, unary and binary operators but `,`, `?:`, and casts to integer types. One that violates a condition in a
-- part that is evaluated has no number.
use Rattle.std.specs.Prelude.{Bool, true, false, ◌||◌, not, if◌then◌else◌, ℤ, pos, negsuc}
use Rattle.std.specs.Ordering.{int_eq}
use Rattle.stk_ctype.specs.declared.kind.IntKind.{IntKind}
use Rattle.stk_numbers.specs.declared.operators.ArithOp.{ArithOp}
use Rattle.stk_numbers.specs.declared.operators.ArithOp.TheVariants as op
use Rattle.stk_numbers.specs.declared.operators.ShiftOp.{ShiftOp}
use Rattle.stk_numbers.specs.declared.operators.CompareOp.{CompareOp}
use Rattle.stk_numbers.specs.declared.conditions.UbKind.TheVariants as ub
use Rattle.stk_numbers.specs.Kinds.{wrap}
use Rattle.stk_numbers.specs.Values.{arith, shifted, is_oversized, compared}
use Rattle.stk_numbers.specs.Conditions.{violates}
use Rattle.stk_type_rules.specs.declared.facts.Constancy.{Constancy}
use Rattle.stk_type_rules.specs.declared.facts.Constancy.TheVariants.{Varies, Violates, Number}

-- 1 for true and 0 for false
abbrev pub truth : Bool → Constancy
truth true = Number (pos 1)
truth false = Number (pos 0)

-- a constant expression converted to a kind (C11 6.3.1)
abbrev pub converted : IntKind → Constancy → Constancy
converted k Varies = Varies
converted k Violates = Violates
converted k (Number z) = Number (wrap k z)

-- a number, where no condition is violated
abbrev pub unless : Bool → ℤ → Constancy
unless true z = Violates
unless false z = Number z

-- an operation on two constant expressions
abbrev pub both : (ℤ → ℤ → Constancy) → Constancy → Constancy → Constancy
both f Varies y = Varies
both f Violates Varies = Varies
both f Violates Violates = Violates
both f Violates (Number z) = Violates
both f (Number x) Varies = Varies
both f (Number x) Violates = Violates
both f (Number x) (Number y) = f x y

-- `+ - * / % & ^ |` in a kind
abbrev pub arithmetic : ArithOp → IntKind → ℤ → ℤ → Constancy
arithmetic o k x y = unless (violates ub.Overflow o k (wrap k x) (wrap k y) || violates ub.Zero o k (wrap k x) (wrap k y)) (arith o k (wrap k x) (wrap k y))

-- `<<` and `>>`, in the promoted kind of the left operand
abbrev pub shift : ShiftOp → IntKind → ℤ → ℤ → Constancy
shift o k x y = unless (is_oversized k y) (shifted o k (wrap k x) y)

-- a comparison in a kind
abbrev pub comparison : CompareOp → IntKind → ℤ → ℤ → Constancy
comparison o k x y = truth (compared o (wrap k x) (wrap k y))

-- whether a number is true
abbrev pub is_true : ℤ → Bool
is_true z = not (int_eq z (pos 0))

-- `&&` and `||`: the right operand is evaluated where the left one doesn't decide, but it is a constant expression in
-- any case (C11 6.5.13, 6.5.14)
abbrev pub logical : Bool → Constancy → Constancy → Constancy
logical stops Varies y = Varies
logical stops Violates Varies = Varies
logical stops Violates Violates = Violates
logical stops Violates (Number z) = Violates
logical stops (Number x) Varies = Varies
logical stops (Number x) Violates = if (if stops then is_true x else not (is_true x)) then truth stops else Violates
logical stops (Number x) (Number y) = if (if stops then is_true x else not (is_true x)) then truth stops else truth (is_true y)

-- `?:`: one branch is evaluated, and all three operands are constant expressions (C11 6.5.15)
abbrev pub choice : IntKind → Constancy → Constancy → Constancy → Constancy
choice k Varies y z = Varies
choice k x Varies z = Varies
choice k x y Varies = Varies
choice k Violates y z = Violates
choice k (Number x) y z = if is_true x then converted k y else converted k z

-- `-`: 0 less the operand, in its promoted kind (C11 6.5.3.3)
abbrev pub negated : IntKind → Constancy → Constancy
negated k Varies = Varies
negated k Violates = Violates
negated k (Number z) = arithmetic op.Sub k (pos 0) z

-- `~`: all bits turned, as the exclusive or with a number whose bits are all ones (C11 6.5.3.3p4)
abbrev pub flipped : IntKind → Constancy → Constancy
flipped k Varies = Varies
flipped k Violates = Violates
flipped k (Number z) = Number (arith op.Xor k (wrap k (negsuc 0)) (wrap k z))

-- `!`
abbrev pub denied : Constancy → Constancy
denied Varies = Varies
denied Violates = Violates
denied (Number z) = truth (int_eq z (pos 0))
