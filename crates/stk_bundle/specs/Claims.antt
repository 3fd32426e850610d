-- The lines of reports, and those of the claim of a finding in a function whose maps were all tried.
use Rattle.std.specs.Prelude.{◌≡◌, ℕ, ℤ, List, [], ◌∷◌, ◌++◌, map, zip, Option, Some, None}
use Rattle.stk_ctype.specs.declared.kind.IntKind.{IntKind}
use Rattle.stk_numbers.specs.declared.conditions.CandKind.{CandKind}
use Rattle.stk_numbers.specs.declared.conditions.CandKind.TheVariants.{Arm, AlwaysTrue, AlwaysFalse, Algebra}
use Rattle.stk_numbers.specs.declared.conditions.Candidate.{Candidate}
use Rattle.stk_numbers.specs.declared.conditions.Condition.{Condition}
use Rattle.stk_numbers.specs.declared.conditions.Inputs.{Inputs}
use Rattle.stk_numbers.specs.Taken.{number_of}
use Rattle.stk_numbers.specs.Values.{bits_of}
use Rattle.stk_meaning.specs.declared.finding.Finding.{Finding}
use Rattle.stk_meaning.specs.declared.finding.Finding.TheVariants as finding
use Rattle.stk_meaning.specs.declared.finding.Need.{Need}
use Rattle.stk_bundle.specs.declared.line.BundleLine.{BundleLine}
use Rattle.stk_bundle.specs.declared.line.BundleLine.TheVariants as line
use Rattle.stk_bundle.specs.declared.stage.Stage.TheVariants as stage
use Rattle.stk_bundle.specs.Grammar.{stage_behind}

-- the number of a kind of candidates
abbrev pub candidate_number : CandKind → ℕ
candidate_number Arm = 1
candidate_number AlwaysTrue = 2
candidate_number AlwaysFalse = 3
candidate_number Algebra = 4

-- the numbers of a start, each modulo 2 to the width of its key
abbrev pub residues : List IntKind → List ℤ → List ℕ
residues keys numbers = map (λ p. bits_of p.0 p.1) (zip keys numbers)

-- the line of a condition of the set, by the start that shows it needed
abbrev pub member_line : List IntKind → Condition → Option Inputs → BundleLine
member_line keys k (Some start) = line.Need k.node (number_of k.kind) (residues keys start.numbers)
member_line keys k None = line.Open k.node (number_of k.kind)

abbrev pub need_line : List IntKind → Need → BundleLine
need_line keys n = member_line keys n.condition n.shown

-- the lines of a report in front of what closes its claim: the candidate, the start that hits it, and the set
abbrev pub report_lines : List IntKind → Candidate → Inputs → List Need → List BundleLine
report_lines keys c start needs = line.Unstable c.node (candidate_number c.kind) ∷ line.Hit (residues keys start.numbers) ∷ map (need_line keys) needs

-- the line of a candidate without a claim
abbrev pub left_line : Candidate → BundleLine
left_line c = line.Left c.node (candidate_number c.kind)

-- the lines of a finding: those of its claim where it is unstable, and else none
abbrev pub claim_lines : List IntKind → Candidate → Finding → List BundleLine
claim_lines keys c (finding.Unstable start needs) = report_lines keys c start needs ++ line.Tried ∷ []
claim_lines keys c f = []

-- the lines of claims are whole claims, wherever a claim may stand
abbrev pub ClaimsStand : Type 0
ClaimsStand = (keys : List IntKind) (c : Candidate) (f : Finding) → stage_behind stage.Item (claim_lines keys c f) ≡ Some stage.Item

-- and the first claim of a function stands behind its line
abbrev pub FirstClaimsStand : Type 0
FirstClaimsStand = (keys : List IntKind) (c : Candidate) (start : Inputs) (needs : List Need) → stage_behind stage.Function (claim_lines keys c (finding.Unstable start needs)) ≡ Some stage.Item
