-- What the residues of input gates are, as laws.
use Rattle.std.specs.Prelude.{◌≡◌, ◌==◌, ℕ, zero, suc, ◌/◌, ◌%◌, Bool, List, [], ◌∷◌, ◌++◌, length, sum}
use Rattle.stk_gates.specs.declared.edge.Edge.{Edge}
use Rattle.stk_gates.specs.Tables.{Table, HasInputs, IsOrdered}
use Rattle.stk_gates.specs.Laws.{values_for}
use Rattle.stk_arith.specs.Rows.{number}
use Rattle.stk_terms.specs.Terms.{Stored}
use Rattle.stk_terms.specs.Fitting.{AreResidues}
use Rattle.stk_terms.specs.Values.{number_at}
use Rattle.stk_blast.specs.Inputs.{residues_of}
use Rattle.stk_blast.specs.Rows.{IsRow}

-- the lowest w bits of a number, the least one first
abbrev pub low_bits : ℕ → ℕ → List Bool
low_bits zero n = []
low_bits (suc w) n = (n % 2 == 1) ∷ low_bits w (n / 2)

-- the bits of residues, one input after the other
abbrev pub input_bits : List ℕ → List ℕ → List Bool
input_bits (w ∷ ws) (r ∷ rs) = low_bits w r ++ input_bits ws rs
input_bits _ _ = []

-- whatever the gates are, they give residues in range
abbrev pub GatesGiveResidues : Type 0
GatesGiveResidues = (widths : List ℕ) (gates : ℕ → Bool) → AreResidues widths (residues_of widths gates)

-- there is a bit for each input gate
abbrev pub BitsAreEnough : Type 0
BitsAreEnough = (widths residues : List ℕ) → AreResidues widths residues → length (input_bits widths residues) ≡ sum widths

-- input gates with the bits of residues give these residues
abbrev pub BitsGiveResidues : Type 0
BitsGiveResidues = (widths residues : List ℕ) (t : Table) (gates : ℕ → Bool) → AreResidues widths residues → HasInputs t gates (input_bits widths residues) → residues_of widths gates ≡ residues

-- a term's row is the term for all residues
abbrev pub RowsAreTerms : Type 0
RowsAreTerms = (t : Table) (s : Stored) (i : ℕ) (row : List Edge) (residues : List ℕ) → IsOrdered t → t.inputs ≡ sum s.inputs → IsRow t s i row → AreResidues s.inputs residues
    → number (values_for t (input_bits s.inputs residues)) row ≡ number_at s residues i
