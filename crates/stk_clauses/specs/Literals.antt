-- Literals, clauses as sets of literals, and what satisfies them.
use Rattle.std.specs.Prelude.{◌≡◌, ℕ, ◌+◌, ◌-◌, ◌*◌, ◌/◌, ◌%◌, ◌<◌, ◌==◌, Bool, true, not, if◌then◌else◌, List, [], ◌∷◌}
use Rattle.std.specs.List.{Contains, All}
use Rattle.stk_clauses.specs.declared.literal.Lit.{Lit}

-- the literal of the same variable with the other sign: one more if the literal is even, one less if it is odd
abbrev pub negated : Lit → Lit
negated l = record { 0 = l.0 + 1 - 2 * (l.0 % 2) }

-- the value of a literal, where each variable has the value that v tells
abbrev pub literal_value : (ℕ → Bool) → Lit → Bool
literal_value v l = if l.0 % 2 == 0 then v (l.0 / 2) else not (v (l.0 / 2))

-- a clause is true where one of its literals is
abbrev pub IsTrueClause : (ℕ → Bool) → List Lit → Type 0
IsTrueClause v c = (l : Lit) × Contains c l × (literal_value v l ≡ true)

-- v makes each clause true
abbrev pub Satisfies : (ℕ → Bool) → List (List Lit) → Type 0
Satisfies v cs = All (IsTrueClause v) cs

-- no values of the variables make each clause true
abbrev pub IsUnsatisfiable : List (List Lit) → Type 0
IsUnsatisfiable cs = (v : ℕ → Bool) → Satisfies v cs → ⊥

-- each literal's variable is below vars
abbrev pub AreBelow : ℕ → List Lit → Type 0
AreBelow vars c = All (λ l. l.0 < 2 * vars) c

-- no literal stands twice
abbrev pub AreDistinct : List Lit → Type 0
AreDistinct [] = Unit {0}
AreDistinct (l ∷ c) = (Contains c l → ⊥) × AreDistinct c
