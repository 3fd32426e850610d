-- Laws of the texts: what is written is read back, and a text says one derivation at most.
use Rattle.std.specs.Prelude.{◌≡◌, ℕ, List, Some}
use Rattle.std.specs.List.{All}
use Rattle.stk_clauses.specs.declared.store.Cnf.{Cnf}
use Rattle.stk_clauses.specs.declared.derivation.Derivation.{Derivation}
use Rattle.stk_clauses.specs.Literals.{AreDistinct}
use Rattle.stk_proofs.specs.Dimacs.{dimacs_text, dimacs_in, FitsDimacs}
use Rattle.stk_proofs.specs.Lrat.{lrat_text, IsLrat, FitsLrat}

-- the text of a clause list says that clause list
abbrev pub ClausesAreReadBack : Type 0
ClausesAreReadBack = (cnf : Cnf) → All AreDistinct cnf.store → FitsDimacs cnf → dimacs_in (dimacs_text cnf) ≡ Some cnf

-- the text of a derivation says that derivation
abbrev pub DerivationsAreReadBack : Type 0
DerivationsAreReadBack = (given : ℕ) (d : Derivation) → FitsLrat given d → IsLrat given (lrat_text given d) d

-- a text says one derivation at most
abbrev pub HasOneReading : Type 0
HasOneReading = (given : ℕ) (bytes : List ℕ) (d e : Derivation) → IsLrat given bytes d → IsLrat given bytes e → d ≡ e

-- the clause list that a text says has a text
abbrev pub ReadClausesFit : Type 0
ReadClausesFit = (bytes : List ℕ) (cnf : Cnf) → dimacs_in bytes ≡ Some cnf → FitsDimacs cnf

-- the derivation that a text says has a text
abbrev pub ReadDerivationsFit : Type 0
ReadDerivationsFit = (given : ℕ) (bytes : List ℕ) (d : Derivation) → IsLrat given bytes d → FitsLrat given d
