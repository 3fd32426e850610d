-- The lines of findings: what is claimed of a candidate, where it stands, and the starts that show it.
use Rattle.std.specs.Prelude.{ℕ, List, [], ◌∷◌, ◌++◌, map}
use Rattle.std.specs.Option.{option_map}
use Rattle.stk_tree.specs.Syntax.{FunctionTree}
use Rattle.stk_numbers.specs.declared.conditions.Candidate.{Candidate}
use Rattle.stk_numbers.specs.declared.conditions.Inputs.{Inputs}
use Rattle.stk_meaning.specs.Typings.{Typing}
use Rattle.stk_meaning.specs.Keys.{head_of}
use Rattle.stk_spelling.specs.Placed.{Placed}
use Rattle.stk_spelling.specs.Claims.{node_spot, claim_by, declarator_name}
use Rattle.stk_meaning.specs.declared.finding.Finding.{Finding}
use Rattle.stk_meaning.specs.declared.finding.Finding.TheVariants as finding
use Rattle.stk_meaning.specs.declared.finding.Need.{Need}
use Rattle.stk_records.specs.declared.line.Fragment.{Fragment}
use Rattle.stk_records.specs.declared.line.StartInputs.{StartInputs}
use Rattle.stk_records.specs.declared.line.Needed.{Needed}
use Rattle.stk_records.specs.declared.line.Line.{Line}
use Rattle.stk_records.specs.declared.line.Line.TheVariants.{Unstable, Undecided}
use Rattle.stk_records.specs.Text.{inputs_of}

-- a candidate of a function
abbrev pub fragment_of : Placed → Typing → FunctionTree → Candidate → Fragment
fragment_of q ty f c = record { at = node_spot q c.node; claim = claim_by ty f c.node c.kind; function = declarator_name q.bytes (head_of f) }

-- a start
abbrev pub start_of : List (List ℕ) → Inputs → StartInputs
start_of keys start = record { inputs = inputs_of keys start.numbers }

-- a condition of the set
abbrev pub needed_of : Placed → List (List ℕ) → Need → Needed
needed_of q keys n = record { kind = n.condition.kind; at = node_spot q n.condition.node; without = option_map (λ start. start_of keys start) n.shown }

-- the line of a finding: none of a clear one
abbrev pub finding_lines : Placed → Typing → FunctionTree → List (List ℕ) → Candidate → Finding → List Line
finding_lines q ty f keys c finding.Clear = []
finding_lines q ty f keys c (finding.Unstable start needs) = Unstable (fragment_of q ty f c) (start_of keys start) (map (needed_of q keys) needs) ∷ []
finding_lines q ty f keys c (finding.Undecided phase) = Undecided (fragment_of q ty f c) phase ∷ []

-- the lines of the findings of candidates, in order
abbrev pub findings_lines : Placed → Typing → FunctionTree → List (List ℕ) → List Candidate → List Finding → List Line
findings_lines q ty f keys [] xs = []
findings_lines q ty f keys (c ∷ cs) [] = []
findings_lines q ty f keys (c ∷ cs) (x ∷ xs) = finding_lines q ty f keys c x ++ findings_lines q ty f keys cs xs
