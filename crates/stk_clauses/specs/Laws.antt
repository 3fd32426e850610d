-- Laws over clauses.
use Rattle.std.specs.Prelude.{◌≢◌, ℕ, List}
use Rattle.std.specs.List.{Contains}
use Rattle.stk_clauses.specs.declared.literal.Lit.{Lit}
use Rattle.stk_clauses.specs.declared.derivation.Derived.{Derived}
use Rattle.stk_clauses.specs.Literals.{negated, IsUnsatisfiable}
use Rattle.stk_clauses.specs.Propagation.{IsNew, IsOpen, AreQuiet, HasNoPair}
use Rattle.stk_clauses.specs.Derivations.{IsRefutation}

-- where the true literals t have no pair and leave every clause quiet, a clause with an open literal whose others are
-- false is new
abbrev pub QuietMakesNew : Type 0
QuietMakesNew = (cs : List (List Lit)) (c t : List Lit) (l : Lit) → HasNoPair t → AreQuiet t cs → Contains c l → IsOpen t l → ((m : Lit) → Contains c m → m ≢ l → Contains t (negated m)) → IsNew cs c

-- a clause all of whose literals are among c's isn't in a list over which c is new
abbrev pub NewIsNoSuperset : Type 0
NewIsNoSuperset = (cs : List (List Lit)) (c part : List Lit) → IsNew cs c → Contains cs part → ((m : Lit) → Contains part m → Contains c m) → ⊥

-- clauses with a refutation have no values that satisfy them
abbrev pub RefutationIsSound : Type 0
RefutationIsSound = (vars : ℕ) (given : List (List Lit)) (steps : List Derived) → IsRefutation vars given steps → IsUnsatisfiable given
