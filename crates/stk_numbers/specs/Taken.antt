-- The kinds of undefined behaviour, their numbers, and which of them are taken out.
use Rattle.std.specs.Prelude.{ℕ, Bool}
use Rattle.stk_numbers.specs.declared.conditions.UbKind.{UbKind}
use Rattle.stk_numbers.specs.declared.conditions.UbKind.TheVariants as ub
use Rattle.stk_numbers.specs.declared.conditions.Kinds.{Kinds}

-- the number of a kind, by which conditions at one node are ordered
abbrev pub number_of : UbKind → ℕ
number_of ub.Overflow = 1
number_of ub.Zero = 2
number_of ub.Shift = 3
number_of ub.Null = 4
number_of ub.Pointer = 5
number_of ub.Bounds = 6
number_of ub.AbsValue = 7
number_of ub.Overlap = 8

-- whether a kind is taken out
abbrev pub is_taken : Kinds → UbKind → Bool
is_taken ks ub.Overflow = ks.overflow
is_taken ks ub.Zero = ks.zero
is_taken ks ub.Shift = ks.shift
is_taken ks ub.Null = ks.null
is_taken ks ub.Pointer = ks.pointer
is_taken ks ub.Bounds = ks.bounds
is_taken ks ub.AbsValue = ks.abs
is_taken ks ub.Overlap = ks.copy
