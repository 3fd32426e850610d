-- The parts of a bundle that findings have.
use Rattle.std.specs.Prelude.{◌≡◌, ℕ, ◌+◌, Bool, true, false, List, [], ◌∷◌, ◌++◌, length, map}
use Rattle.stk_ctype.specs.declared.kind.IntKind.{IntKind}
use Rattle.stk_tree.specs.Syntax.{FunctionTree}
use Rattle.stk_numbers.specs.declared.conditions.Candidate.{Candidate}
use Rattle.stk_numbers.specs.declared.conditions.Inputs.{Inputs}
use Rattle.stk_numbers.specs.declared.conditions.Kinds.{Kinds}
use Rattle.stk_meaning.specs.Typings.{Typing}
use Rattle.stk_meaning.specs.Findings.{members}
use Rattle.stk_meaning.specs.declared.finding.Finding.{Finding}
use Rattle.stk_meaning.specs.declared.finding.Finding.TheVariants.{Clear, Unstable, Undecided}
use Rattle.stk_meaning.specs.declared.finding.Need.{Need}
use Rattle.stk_clauses.specs.declared.store.Cnf.{Cnf}
use Rattle.stk_clauses.specs.declared.derivation.Derivation.{Derivation}
use Rattle.stk_proofs.specs.Dimacs.{dimacs_text, FitsDimacs}
use Rattle.stk_proofs.specs.Lrat.{lrat_text, FitsLrat}
use Rattle.stk_bundle.specs.declared.line.BundleLine.{BundleLine}
use Rattle.stk_bundle.specs.declared.line.BundleLine.TheVariants as line
use Rattle.stk_bundle.specs.Blocks.{line_count}
use Rattle.stk_bundle.specs.Bundles.{LineBlock}
use Rattle.stk_bundle.specs.Claims.{report_lines, left_line}
use Rattle.stk_goals.specs.Queries.{key_kinds}
use Rattle.stk_claims.specs.declared.closing.Closing.{Closing}
use Rattle.stk_claims.specs.declared.closing.Closing.TheVariants.{Tried, Refuted, GivenUp}
use Rattle.stk_claims.specs.Closing.{Closes}

-- a line without a block
abbrev pub alone : BundleLine → LineBlock
alone l = record { line = l; block = [] }

-- a clause list, and a derivation over it, each behind a line that says how many lines its text has
abbrev pub clauses_part : Cnf → LineBlock
clauses_part list = record { line = line.Clauses (line_count (dimacs_text list)); block = dimacs_text list }

abbrev pub steps_part : Cnf → Derivation → LineBlock
steps_part list derivation =
    record { line = line.Steps (line_count (lrat_text (length list.store) derivation)); block = lrat_text (length list.store) derivation }

abbrev pub proof_parts : Cnf → Derivation → List LineBlock
proof_parts list derivation = clauses_part list ∷ steps_part list derivation ∷ []

-- what stands behind the set of a claim
abbrev pub closing_parts : Closing → List LineBlock
closing_parts Tried = alone line.Tried ∷ []
closing_parts (Refuted list derivation) = proof_parts list derivation
closing_parts GivenUp = []

-- the parts of a claim
abbrev pub claim_parts : List IntKind → Candidate → Inputs → List Need → Closing → List LineBlock
claim_parts kinds c start needs closing = map alone (report_lines kinds c start needs) ++ closing_parts closing

-- the parts of a report: its claim, or that the candidate has none
abbrev pub report_parts : List IntKind → Candidate → Inputs → List Need → Closing → List LineBlock
report_parts kinds c start needs Tried = claim_parts kinds c start needs Tried
report_parts kinds c start needs (Refuted list derivation) = claim_parts kinds c start needs (Refuted list derivation)
report_parts kinds c start needs GivenUp = alone (left_line c) ∷ []

-- the texts of what closes a claim can be written
abbrev pub FitsTexts : Closing → Type 0
FitsTexts Tried = Unit {0}
FitsTexts (Refuted list derivation) = FitsDimacs list × FitsLrat (length list.store) derivation
FitsTexts GivenUp = Unit {0}

-- a candidate without a claim
abbrev pub left_mark : BundleLine → ℕ
left_mark (line.Left node kind) = 1
left_mark l = 0

-- how many of these there are among parts
abbrev pub left_count : List LineBlock → ℕ
left_count [] = 0
left_count (p ∷ ps) = left_mark p.line + left_count ps

module _ (ty : Typing) (without : Kinds) (f : FunctionTree) (budget : ℕ) where
  -- these are lawful parts of a report: those of its claim, which is closed, or the line of a candidate whose query for
  -- the set is spent at the budget
  pub record AreReportParts (c : Candidate) (start : Inputs) (needs : List Need) (parts : List LineBlock) : Type 0 where
    pub closing : Closing
    pub closes : Closes ty without f c (members needs) budget closing
    pub are : parts ≡ report_parts (key_kinds ty without f) c start needs closing

  -- of a finding: of a report its parts, and else none
  abbrev pub AreFindingParts : Candidate → Finding → List LineBlock → Type 0
  AreFindingParts c Clear parts = parts ≡ []
  AreFindingParts c (Unstable start needs) parts = AreReportParts c start needs parts
  AreFindingParts c (Undecided phase) parts = parts ≡ []

  -- of findings of candidates, one after the other
  abbrev pub AreClaims : List Candidate → List Finding → List LineBlock → Type 0
  AreClaims [] [] parts = parts ≡ []
  AreClaims [] (x ∷ xs) parts = ⊥
  AreClaims (c ∷ cs) [] parts = ⊥
  AreClaims (c ∷ cs) (x ∷ xs) parts = (here behind : List LineBlock) × AreFindingParts c x here × AreClaims cs xs behind × (parts ≡ here ++ behind)

-- the line of a function whose definition begins at this byte, where it hasn't come
abbrev pub head_parts : ℕ → Bool → List LineBlock
head_parts at true = []
head_parts at false = alone (line.Function at) ∷ []

-- the parts of such a function: its line, where it has some, and they
abbrev pub function_parts : ℕ → List LineBlock → List LineBlock
function_parts at [] = []
function_parts at (p ∷ ps) = alone (line.Function at) ∷ p ∷ ps

-- the same of further ones, where the line of the function may have come already
abbrev pub further_parts : ℕ → Bool → List LineBlock → List LineBlock
further_parts at true ps = ps
further_parts at false ps = function_parts at ps

-- whether there are some
abbrev pub are_some : List LineBlock → Bool
are_some [] = false
are_some (p ∷ ps) = true
