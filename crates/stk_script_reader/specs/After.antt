-- What names stand for after some commands of a script.
use Rattle.std.specs.Prelude.{◌≡◌, ℕ, List, [], ◌∷◌, Some, drop}
use Rattle.stk_terms.specs.Terms.{Stored}
use Rattle.stk_terms.specs.Fitting.{AreResidues}
use Rattle.stk_scripts.specs.Syntax.{Declared, Defined}
use Rattle.stk_scripts.specs.Scripts.{Bits, width_in, IsNew, behind_declared, behind_defined, with_inputs, with_defined, widths_in, DeclaredFit}
use Rattle.stk_script_reader.specs.declared.names.Names.{Names}
use Rattle.stk_script_reader.specs.Names.{StandsFor}
use Rattle.stk_script_reader.specs.Standing.{widths_named, bits_named, AllStand}

-- names stand for terms of these widths and bits
pub record IsAfter (table : Names) (s : Stored) (g : List (List ℕ × ℕ)) (bits : List ℕ → List (List ℕ × Bits)) : Type 0 where
  pub names : List (List ℕ × ℕ)
  pub stand : StandsFor table names
  pub exist : AllStand s names
  pub widths : widths_named s names ≡ g
  pub numbers : (residues : List ℕ) → AreResidues s.inputs residues → bits_named s residues names ≡ bits residues

-- definitions fit behind names, however deep they are
abbrev pub WidthsFit : List (List ℕ × ℕ) → List Defined → Type 0
WidthsFit g [] = Unit {0}
WidthsFit g (d ∷ ds) = IsNew g d.name × (width_in g d.body ≡ Some d.width) × WidthsFit ((d.name, d.width) ∷ g) ds

-- some declarations are read, and the rest is left
pub record Declaring (table : Names) (s : Stored) (all rest : List Declared) (key : ℕ) : Type 0 where
  pub g : List (List ℕ × ℕ)
  pub bits : List ℕ → List (List ℕ × Bits)
  pub after : IsAfter table s g bits
  pub inputs : s.inputs ≡ widths_in all
  pub places : drop key s.inputs ≡ widths_in rest
  pub widths : behind_declared g rest ≡ behind_declared [] all
  pub numbers : (residues : List ℕ) → AreResidues s.inputs residues → with_inputs (bits residues) rest (drop key residues) ≡ with_inputs [] all residues
  pub fits : DeclaredFit [] all → DeclaredFit g rest
  pub whole : DeclaredFit g rest → DeclaredFit [] all

-- some definitions are read, and the rest is left
pub record Defining (table : Names) (s : Stored) (inputs : List ℕ) (first : List (List ℕ × ℕ)) (start : List ℕ → List (List ℕ × Bits)) (all rest : List Defined) : Type 0 where
  pub g : List (List ℕ × ℕ)
  pub bits : List ℕ → List (List ℕ × Bits)
  pub after : IsAfter table s g bits
  pub same : s.inputs ≡ inputs
  pub widths : behind_defined g rest ≡ behind_defined first all
  pub numbers : (residues : List ℕ) → AreResidues inputs residues → with_defined (bits residues) rest ≡ with_defined (start residues) all
  pub fits : WidthsFit first all → WidthsFit g rest
  pub whole : WidthsFit g rest → WidthsFit first all
