-- The tests of the sections of a `switch`: whether control goes to each.
use Rattle.std.specs.Prelude.{ℕ, ◌≡◌, Bool, true, false, List, [], ◌∷◌, Option, Some, None, ℤ, if◌then◌else◌}
use Rattle.stk_ctype.specs.declared.kind.IntKind.{IntKind}
use Rattle.stk_ctype.specs.declared.kind.IntKind.TheVariants.{Int}
use Rattle.stk_meaning.specs.Operations.{bit}
use Rattle.stk_guarded.specs.Sections.{is_first, behind_first}

-- the tests were made
abbrev pub TestsMade : {V : Type 0} → (IntKind → V → Type 0) → List V → Type 0
TestsMade made [] = Unit {0}
TestsMade made (v ∷ vs) = made Int v × TestsMade made vs

-- each test says whether control goes to its section, where it goes to one of them; else it goes to one behind them, or
-- to none
abbrev pub TestsLead : {V : Type 0} → (IntKind → V → ℤ → Type 0) → List V → Option ℕ → Option ℕ → Type 0
TestsLead shows [] goes_to behind = goes_to ≡ behind
TestsLead shows (v ∷ vs) goes_to behind = shows Int v (bit (is_first goes_to)) × TestsLead shows vs (behind_first goes_to) behind

-- the tests of all sections
abbrev pub TestsShow : {V : Type 0} → (IntKind → V → ℤ → Type 0) → List V → Option ℕ → Type 0
TestsShow shows vs goes_to = TestsLead shows vs goes_to None

-- where control goes that has come here
abbrev pub goes_if : Bool → Option ℕ → Option ℕ
goes_if b goes_to = if b then goes_to else None

-- whether it goes to none
abbrev pub is_none : Option ℕ → Bool
is_none None = true
is_none (Some n) = false
