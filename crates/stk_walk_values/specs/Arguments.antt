-- What is known of the arguments of a call: of a library call the first three, of another call nothing.
use Rattle.std.specs.Prelude.{ℕ, zero, suc, ◌≡◌, List, [], ◌∷◌, get_or, Option, Some, None, ℤ, pos}
use Rattle.stk_ctype.specs.declared.kind.IntKind.{IntKind}
use Rattle.stk_ctype.specs.declared.kind.IntKind.TheVariants.{ULong}
use Rattle.stk_ctype.specs.Types.{TypeTrees}
use Rattle.stk_numbers.specs.Kinds.{wrap}
use Rattle.stk_meaning.specs.Libraries.{Library, absolute_in, copy_bytes}
use Rattle.stk_meaning.specs.Expressions.{passed, later_parameters}
use Rattle.stk_walking.specs.declared.operations.Operand.{Operand}
use Rattle.stk_walking.specs.declared.node_tests.Operands.{Operands}
use Rattle.stk_walking.specs.NodeTests.{OperandsMade, OperandsShow}
use Rattle.stk_walk_values.specs.declared.calls.Arguments.{Arguments}

-- how many numbers there are, where 3 stands for all greater numbers
abbrev pub count_of : List ℤ → ℕ
count_of [] = 0
count_of (x ∷ []) = 1
count_of (x ∷ y ∷ []) = 2
count_of (x ∷ y ∷ z ∷ zs) = 3

-- the parameters behind so many
abbrev pub parameters_behind : ℕ → TypeTrees → TypeTrees
parameters_behind zero ts = ts
parameters_behind (suc n) ts = later_parameters (parameters_behind n ts)

-- one operand more, behind so many
abbrev pub set_operand : {V : Type 0} → ℕ → Operands V → Operand V → Operands V
set_operand zero xs x = record xs { first = x }
set_operand (suc zero) xs x = record xs { second = x }
set_operand (suc (suc n)) xs x = record xs { third = x }

-- the kind of a parameter of a function of the library, by its position
abbrev pub parameter_kind : Library → ℕ → Option IntKind
parameter_kind (absolute_in k) zero = Some k
parameter_kind (absolute_in k) (suc i) = None
parameter_kind copy_bytes zero = Some ULong
parameter_kind copy_bytes (suc zero) = Some ULong
parameter_kind copy_bytes (suc (suc zero)) = Some ULong
parameter_kind copy_bytes (suc (suc (suc i))) = None

-- a number converted to a kind, where there is one
abbrev pub in_parameter : Option IntKind → ℤ → ℤ
in_parameter None x = x
in_parameter (Some k) x = wrap k x

-- parameters of a function of the library: arguments are passed in its kinds
abbrev pub Takes : Option Library → TypeTrees → Type 0
Takes None ts = Unit {0}
Takes (Some l) ts = (i : ℕ) (x : ℤ) → passed (parameters_behind i ts) x ≡ in_parameter (parameter_kind l i) x

-- the first argument of a function of the library has the kind of its parameter
abbrev pub IsFirstKind : Option Library → IntKind → Type 0
IsFirstKind None k = Unit {0}
IsFirstKind (Some l) k = parameter_kind l 0 ≡ Some k

-- arguments were made
pub record ArgumentsMade {V : Type 0} (made : IntKind → V → Type 0) (library : Option Library) (xs : Arguments V) : Type 0 where
  pub operands : OperandsMade made xs.operands
  pub first : IsFirstKind library xs.operands.first.kind

-- the first three numbers of a list, 0 for one that there isn't, and how many it has
pub record FirstShow {V : Type 0} (shows : IntKind → V → ℤ → Type 0) (xs : Arguments V) (numbers : List ℤ) : Type 0 where
  pub count : xs.count ≡ count_of numbers
  pub operands : OperandsShow shows xs.operands (get_or numbers 0 (pos 0)) (get_or numbers 1 (pos 0)) (get_or numbers 2 (pos 0))

-- the same of a library call; of another call nothing is shown
abbrev pub ArgumentsShow : {V : Type 0} → (IntKind → V → ℤ → Type 0) → Option Library → Arguments V → List ℤ → Type 0
ArgumentsShow shows None xs numbers = Unit {0}
ArgumentsShow shows (Some l) xs numbers = FirstShow shows xs numbers
