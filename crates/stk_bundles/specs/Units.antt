-- The part of a bundle that a unit has, and what writing it does.
use Rattle.std.specs.Prelude.{◌≡◌, ◌≤◌, ◌⊎◌, ℕ, ◌+◌, Bool, List, [], ◌∷◌, ◌++◌, take, Option, Result, Ok, Err, OnOk, OnErr}
use Rattle.stk_base.specs.Causes.{Rose}
use Rattle.stk_base.specs.Streams.{Appended, AppendedPrefix}
use Rattle.stk_lex.specs.declared.token.Token.{Token}
use Rattle.stk_ctype.specs.declared.symbol.NameEntry.{NameEntry}
use Rattle.stk_tree.specs.declared.node.Node.{Node}
use Rattle.stk_tree.specs.Syntax.{UnitTree, FunctionTree, defines}
use Rattle.stk_numbers.specs.declared.conditions.Candidate.{Candidate}
use Rattle.stk_numbers.specs.declared.conditions.Kinds.{Kinds}
use Rattle.stk_meaning.specs.Lists.{candidates}
use Rattle.stk_meaning.specs.declared.finding.Finding.{Finding}
use Rattle.stk_meaning.specs.Findings.{AreLawful}
use Rattle.stk_meaning.specs.PathFindings.{function_subject}
use Rattle.stk_spent_queries.specs.Spent.{spent_at}
use Rattle.stk_spent_queries.specs.Marks.{all_marks, AreCounted}
use Rattle.stk_bundle.specs.Bundles.{LineBlock, parts_text}
use Rattle.stk_claims.specs.Parts.{AreClaims, function_parts, left_count}
use Rattle.stk_records.specs.declared.counts.Counts.{Counts}
use Rattle.stk_records.specs.Counts.{nothing_counted}
use Rattle.stk_records.specs.declared.writing.Stop.{Stop}
use Rattle.stk_records.specs.declared.writing.Stop.TheVariants as stops
use Rattle.stk_units.specs.Counted.{one_skipped, one_judged}
use Rattle.stk_units.specs.Functions.{unit_typing}
use Rattle.stk_units.specs.Outcomes.{UnitOutcome, no_function, left_out, is_judged, IsOutcome}
use Rattle.stk_units.specs.Visiting.{LeavingOut, Judging}
use Rattle.stk_bundles.specs.declared.units.ClaimVisitor.{ClaimVisitor}
use Rattle.stk_bundles.specs.Wrote.{WroteFunction, HasStoppedIn}

-- the byte at which tokens begin
abbrev pub beginning_of : List Token → ℕ
beginning_of [] = 0
beginning_of (t ∷ ts) = t.span.from

-- ---- of a function

-- what a bundle says of a function: its lines with their blocks, and how often its findings or these say that a query
-- was given up
pub record FunctionPart : Type 0 where
  pub lines : List LineBlock
  pub marks : ℕ

-- all that is said of some functions
abbrev pub said_lines : List FunctionPart → List LineBlock
said_lines [] = []
said_lines (p ∷ ps) = p.lines ++ said_lines ps

abbrev pub said_text : List FunctionPart → List ℕ
said_text ps = parts_text (said_lines ps)

abbrev pub said_marks : List FunctionPart → ℕ
said_marks [] = 0
said_marks (p ∷ ps) = p.marks + said_marks ps

module _ (bytes : List ℕ) (without : Kinds) (budget : ℕ) (now : List NameEntry) (tokens : List Token) (u : UnitTree) (f : FunctionTree) where
  -- Findings of candidates are lawful, and these are their claims: each set that is reported suffices in path runs and
  -- in every execution, and a query is given up only where it is spent at this budget.
  pub record AreClaimed (cs : List Candidate) (findings : List Finding) (claims : List LineBlock) : Type 0 where
    pub lawful : AreLawful (function_subject (unit_typing bytes now u) without f (spent_at (unit_typing bytes now u) without f budget)) cs findings
    pub are : AreClaims (unit_typing bytes now u) without f budget cs findings claims

  -- what is said of the function: the claims of lawful findings of its candidates, in order, behind its line where
  -- there are some
  pub record IsFunctionPart (part : FunctionPart) (counts : Counts) : Type 0 where
    pub findings : List Finding
    pub claims : List LineBlock
    pub claimed : AreClaimed (candidates (unit_typing bytes now u) f) findings claims
    pub same_lines : part.lines ≡ function_parts (beginning_of tokens) claims
    pub same_marks : part.marks ≡ all_marks findings + left_count claims
    pub same_counts : counts ≡ one_judged findings

  -- what may be said first of it: the same of its first candidates
  pub record IsFunctionBegun (lines : List LineBlock) : Type 0 where
    pub count : ℕ
    pub findings : List Finding
    pub claims : List LineBlock
    pub claimed : AreClaimed (take count (candidates (unit_typing bytes now u) f)) findings claims
    pub same_lines : lines ≡ function_parts (beginning_of tokens) claims

-- ---- of a unit

-- of what becomes of a unit: a function that is judged has its part, and everything else has none
abbrev pub IsOutcomePart : List ℕ → Kinds → ℕ → List NameEntry → List Token → UnitOutcome → List FunctionPart → Counts → Type 0
IsOutcomePart bytes without budget now tokens no_function said counts = (said ≡ []) × (counts ≡ nothing_counted)
IsOutcomePart bytes without budget now tokens (left_out cause) said counts = (said ≡ []) × (counts ≡ one_skipped)
IsOutcomePart bytes without budget now tokens (is_judged node f) said counts = (part : FunctionPart) × (said ≡ part ∷ []) × IsFunctionPart bytes without budget now tokens (defines node f) f part counts

-- what a bundle says of a unit of these tokens, what the unit counts for, and the names that it leaves in force
pub record IsUnitPart (bytes : List ℕ) (without : Kinds) (budget : ℕ) (mark : Bool) (es : List NameEntry) (body : Option ℕ) (tokens : List Token) (said : List FunctionPart) (counts : Counts) (now : List NameEntry) : Type 0 where
  pub outcome : UnitOutcome
  pub is : IsOutcome bytes without mark es body tokens outcome now
  pub part : IsOutcomePart bytes without budget now tokens outcome said counts

-- what a bundle may say first of a unit, which defines a function that is judged
pub record IsUnitBegun (bytes : List ℕ) (without : Kinds) (budget : ℕ) (mark : Bool) (es : List NameEntry) (body : Option ℕ) (tokens : List Token) (said : List FunctionPart) : Type 0 where
  pub node : Node
  pub tree : FunctionTree
  pub now : List NameEntry
  pub is : IsOutcome bytes without mark es body tokens (is_judged node tree) now
  pub part : FunctionPart
  pub begun : IsFunctionBegun bytes without budget now tokens (defines node tree) tree part.lines
  pub same_said : said ≡ part ∷ []

-- ---- what a sink took

module _ (bytes : List ℕ) (without : Kinds) (budget : ℕ) (mark : Bool) (es : List NameEntry) (body : Option ℕ) (tokens : List Token) (before after : Option (List ℕ)) where
  -- a sink took the part of a unit, which counts for this and leaves these names, and a count of what was given up
  -- tells of its marks
  pub record WroteUnit (first last : ℕ) (counts : Counts) (now : List NameEntry) : Type 0 where
    pub said : List FunctionPart
    pub are : IsUnitPart bytes without budget mark es body tokens said counts now
    pub written : Appended before after (said_text said)
    pub counted : AreCounted first last (said_marks said)

  -- a sink took some prefix of what may be said first of a unit
  pub record WroteUnitPrefix : Type 0 where
    pub said : List FunctionPart
    pub begun : IsUnitBegun bytes without budget mark es body tokens said
    pub written : AppendedPrefix before after (said_text said)

  -- a sink took nothing, or some prefix
  abbrev pub HasStoppedInUnit : Type 0
  HasStoppedInUnit = (after ≡ before) ⊎ WroteUnitPrefix

-- ---- what a visitor does

-- What writing the part of a function does: its claims were written, or where it stopped nothing or some prefix of the
-- claims of its first candidates; a fault of writing shows in the count of the sink's faults, and neither count falls.
pub record HasWrittenFunction (bytes : List ℕ) (without : Kinds) (budget : ℕ) (now : List NameEntry) (tokens : List Token) (u : UnitTree) (f : FunctionTree) (r : Result (Unit {0}) Stop) (before after : Option (List ℕ)) (faults_before faults_after first last : ℕ) (counts : Counts) : Type 0 where
  pub written : OnOk r (WroteFunction (unit_typing bytes now u) without f budget (beginning_of tokens) before after first last counts)
  pub stopped : OnErr r (HasStoppedIn (unit_typing bytes now u) without f budget (beginning_of tokens) before after)
  pub later : faults_before ≤ faults_after
  pub fault : r ≡ Err stops.WriteFault → Rose faults_before faults_after
  pub given_up : first ≤ last

-- nothing was written of a unit that is left out, and it was counted
pub record HasLeftOut {O A : Type 0} (r : Result (Unit {0}) Stop) (counts : Counts) (o p : O) (a b : A) : Type 0 where
  pub well : r ≡ Ok tt
  pub same_counts : counts ≡ one_skipped
  pub out : p ≡ o
  pub asked : b ≡ a

-- The part of a unit that is left out, which is nothing, and of a function that is judged, as what a visitor does: a
-- sink shows what it took and how often it failed, and a decider how much it gave up.
abbrev pub LeavesNothing : {O A : Type 0} → LeavingOut ClaimVisitor O A
LeavesNothing = λ bytes tokens cause r v w o p a b. HasLeftOut r w.counts o p a b

abbrev pub JudgesClaims : {O A : Type 0} → (O → Option (List ℕ)) → (O → ℕ) → (A → ℕ) → Judging ClaimVisitor O A
JudgesClaims taken faults given_up = λ bytes without now tokens u f r v w o p a b. HasWrittenFunction bytes without v.budget now tokens u f r (taken o) (taken p) (faults o) (faults p) (given_up a) (given_up b) w.counts
