-- What a call may cost at most behind its arguments.
use Rattle.std.specs.Prelude.{ℕ, ◌+◌, ◌*◌, Option, Some, None}
use Rattle.stk_numbers.specs.Kinds.{width_of}
use Rattle.stk_meaning.specs.Libraries.{Library, absolute_in, copy_bytes}

-- the step of what is asked of the arguments
abbrev pub checks_charge : Option Library → ℕ
checks_charge None = 0
checks_charge (Some (absolute_in k)) = 10 * width_of k + 3
checks_charge (Some copy_bytes) = 2755

-- the value of a call that returns, beside so many kept objects
abbrev pub returned_charge : ℕ → Option Library → ℕ
returned_charge kept None = 3 * kept
returned_charge kept (Some (absolute_in k)) = 23 * width_of k
returned_charge kept (Some copy_bytes) = 3 * kept
