-- The kinds that an integer constant may have (C11 6.4.4.1p5).
use Rattle.std.specs.Prelude.{ℕ, Bool, true, false, List, [], ◌∷◌, Option, Some, None, ℤ, pos, if◌then◌else◌}
use Rattle.stk_ctype.specs.declared.kind.IntKind.{IntKind}
use Rattle.stk_ctype.specs.declared.kind.IntKind.TheVariants as kind
use Rattle.stk_numbers.specs.declared.suffixes.Suffix.{Suffix}
use Rattle.stk_numbers.specs.declared.suffixes.Suffix.TheVariants as suffix
use Rattle.stk_numbers.specs.Kinds.{fits}

-- the list of a decimal constant, and of an octal or hexadecimal one, by the suffix
abbrev pub kinds_of : Bool → Suffix → List IntKind
kinds_of true suffix.None = kind.Int ∷ kind.Long ∷ kind.LLong ∷ []
kinds_of false suffix.None = kind.Int ∷ kind.UInt ∷ kind.Long ∷ kind.ULong ∷ kind.LLong ∷ kind.ULLong ∷ []
kinds_of decimal suffix.U = kind.UInt ∷ kind.ULong ∷ kind.ULLong ∷ []
kinds_of true suffix.L = kind.Long ∷ kind.LLong ∷ []
kinds_of false suffix.L = kind.Long ∷ kind.ULong ∷ kind.LLong ∷ kind.ULLong ∷ []
kinds_of decimal suffix.UL = kind.ULong ∷ kind.ULLong ∷ []
kinds_of true suffix.LL = kind.LLong ∷ []
kinds_of false suffix.LL = kind.LLong ∷ kind.ULLong ∷ []
kinds_of decimal suffix.ULL = kind.ULLong ∷ []

-- the first of some kinds that holds a number
abbrev pub first_holding : List IntKind → ℤ → Option IntKind
first_holding [] z = None
first_holding (k ∷ ks) z = if fits k z then Some k else first_holding ks z

-- the kind of a constant
abbrev pub constant_kind : Bool → Suffix → ℕ → Option IntKind
constant_kind decimal s n = first_holding (kinds_of decimal s) (pos n)
