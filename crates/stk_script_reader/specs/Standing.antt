-- Terms of a store that are terms of a script.
use Rattle.std.specs.Prelude.{◌≡◌, ℕ, ◌<◌, List, [], ◌∷◌, length, Some, None, Result, Ok, Err}
use Rattle.stk_terms.specs.declared.term.TermId.{TermId}
use Rattle.stk_terms.specs.Terms.{Stored}
use Rattle.stk_terms.specs.Fitting.{AreResidues}
use Rattle.stk_terms.specs.Values.{width_at, number_at, bit}
use Rattle.stk_scripts.specs.declared.operators.TestOp.{TestOp}
use Rattle.stk_scripts.specs.Syntax.{Expr}
use Rattle.stk_scripts.specs.Table.{test_truth}
use Rattle.stk_scripts.specs.Scripts.{Bits, bits, meaning, width_in, same_width}
use Rattle.stk_script_trees.specs.declared.fault.Fault.{Fault}
use Rattle.stk_script_trees.specs.declared.fault.Fault.TheVariants as fault
use Rattle.stk_script_reader.specs.declared.names.Names.{Names}
use Rattle.stk_script_reader.specs.Names.{StandsFor}

-- the widths of names that stand for places
abbrev pub widths_named : Stored → List (List ℕ × ℕ) → List (List ℕ × ℕ)
widths_named s [] = []
widths_named s (x ∷ xs) = (x.0, width_at s x.1) ∷ widths_named s xs

-- their bits for residues of the inputs
abbrev pub bits_named : Stored → List ℕ → List (List ℕ × ℕ) → List (List ℕ × Bits)
bits_named s residues [] = []
bits_named s residues (x ∷ xs) = (x.0, bits (width_at s x.1) (number_at s residues x.1)) ∷ bits_named s residues xs

-- names stand for terms of the store
abbrev pub AllStand : Stored → List (List ℕ × ℕ) → Type 0
AllStand s [] = Unit {0}
AllStand s (x ∷ xs) = (x.1 < length s.terms) × AllStand s xs

-- the term at a place is this one, by what names stand for
pub record IsTerm (s : Stored) (names : List (List ℕ × ℕ)) (e : Expr) (j : ℕ) : Type 0 where
  pub named : AllStand s names
  pub there : j < length s.terms
  pub wide : width_in (widths_named s names) e ≡ Some (width_at s j)
  pub means : (residues : List ℕ) → AreResidues s.inputs residues → meaning (bits_named s residues names) e ≡ bits (width_at s j) (number_at s residues j)

-- the term at a place is 1 where this comparison is true, and else 0
pub record IsTest (s : Stored) (names : List (List ℕ × ℕ)) (op : TestOp) (e f : Expr) (j : ℕ) : Type 0 where
  pub named : AllStand s names
  pub there : j < length s.terms
  pub one : width_at s j ≡ 1
  pub width : ℕ
  pub left : width_in (widths_named s names) e ≡ Some width
  pub right : width_in (widths_named s names) f ≡ Some width
  pub value : (residues : List ℕ) → AreResidues s.inputs residues → number_at s residues j ≡ bit (test_truth op (meaning (bits_named s residues names) e).width (meaning (bits_named s residues names) e).number (meaning (bits_named s residues names) f).number)

-- what making a term of a script answers: its place, or that its parts don't fit
abbrev pub Stands : Stored → Stored → List (List ℕ × ℕ) → Expr → Result TermId Fault → Type 0
Stands old new names e (Ok id) = IsTerm new names e id.0
Stands old new names e (Err fault.Bad) = width_in (widths_named old names) e ≡ None
Stands old new names e (Err fault.NoMemory) = Unit {0}

-- the same of a comparison
abbrev pub Tests : Stored → Stored → List (List ℕ × ℕ) → TestOp → Expr → Expr → Result TermId Fault → Type 0
Tests old new names op e f (Ok id) = IsTest new names op e f id.0
Tests old new names op e f (Err fault.Bad) = same_width (width_in (widths_named old names) e) (width_in (widths_named old names) f) ≡ None
Tests old new names op e f (Err fault.NoMemory) = Unit {0}

-- what a table of names stands for in a store
pub record Known (table : Names) (s : Stored) : Type 0 where
  pub names : List (List ℕ × ℕ)
  pub stand : StandsFor table names
  pub exist : AllStand s names

-- making a term by a table of names
abbrev pub Makes : Names → Stored → Stored → Expr → Result TermId Fault → Type 0
Makes table old new e r = (names : List (List ℕ × ℕ)) → StandsFor table names → AllStand old names → Stands old new names e r
