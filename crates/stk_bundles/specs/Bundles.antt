-- Which bundles are lawful for the bytes of an input, with these kinds of conditions taken out and queries of a budget.
use Rattle.std.specs.Prelude.{◌≡◌, ◌⊎◌, ℕ, List, [], ◌∷◌, ◌++◌, length, map, Option}
use Rattle.stk_base.specs.declared.status.Status.{Status}
use Rattle.stk_base.specs.Streams.{Appended, AppendedPrefix, IsFlushed}
use Rattle.stk_numbers.specs.declared.conditions.Kinds.{Kinds}
use Rattle.stk_spent_queries.specs.Marks.{AreCounted}
use Rattle.stk_bundle.specs.declared.line.BundleLine.TheVariants as line
use Rattle.stk_bundle.specs.Bundles.{parts_text}
use Rattle.stk_bundle.specs.Heads.{head_lines}
use Rattle.stk_claims.specs.Parts.{alone}
use Rattle.stk_records.specs.declared.counts.Counts.{Counts}
use Rattle.stk_units.specs.Counted.{status_of}
use Rattle.stk_units.specs.Said.{IsSaidOf, IsSaidFirstOf}
use Rattle.stk_bundles.specs.Units.{FunctionPart, said_text, said_marks, IsUnitPart, IsUnitBegun}

-- the text of the first lines: what it is, how many bytes the input has, and which kinds are taken out
abbrev pub head_text : List ℕ → Kinds → List ℕ
head_text bytes without = parts_text (map alone (head_lines (length bytes) without))

-- the text of the last line
abbrev pub end_text : List ℕ
end_text = parts_text (map alone (line.End ∷ []))

-- A lawful bundle of an input, the status that goes with it, and how often its findings and its lines say that a query
-- was given up: the first lines, what is said of each unit in order, and the last line.
pub record IsLawfulBundle (bytes : List ℕ) (without : Kinds) (budget : ℕ) (text : List ℕ) (status : Status) (marks : ℕ) : Type 0 where
  pub said : List FunctionPart
  pub counts : Counts
  pub units : IsSaidOf (IsUnitPart bytes without budget) bytes said counts
  pub same_text : text ≡ head_text bytes without ++ (said_text said ++ end_text)
  pub same_status : status ≡ status_of counts.unstable counts.undecided
  pub same_marks : marks ≡ said_marks said

-- What a lawful bundle may begin with: the first lines, what is said of the first units, and of the next one the claims
-- of first candidates.
pub record IsBundleBegun (bytes : List ℕ) (without : Kinds) (budget : ℕ) (text : List ℕ) : Type 0 where
  pub said : List FunctionPart
  pub units : IsSaidFirstOf (IsUnitPart bytes without budget) (IsUnitBegun bytes without budget) bytes said
  pub same_text : text ≡ head_text bytes without ++ said_text said

-- a lawful bundle, or what one may begin with
abbrev pub IsBundleFront : List ℕ → Kinds → ℕ → List ℕ → Type 0
IsBundleFront bytes without budget text = ((status : Status) × ((marks : ℕ) × IsLawfulBundle bytes without budget text status marks)) ⊎ IsBundleBegun bytes without budget text

-- a sink took a lawful bundle, with this status, and was flushed, and a count of what was given up tells of its marks
pub record TookBundle (bytes : List ℕ) (without : Kinds) (budget : ℕ) (taken_before taken_after : Option (List ℕ)) (flushed given_before given_after : ℕ) (status : Status) : Type 0 where
  pub text : List ℕ
  pub marks : ℕ
  pub lawful : IsLawfulBundle bytes without budget text status marks
  pub written : Appended taken_before taken_after text
  pub flush : IsFlushed taken_after flushed
  pub counted : AreCounted given_before given_after marks

-- a sink took some prefix of a lawful bundle, or of what one may begin with
pub record TookBundlePrefix (bytes : List ℕ) (without : Kinds) (budget : ℕ) (taken_before taken_after : Option (List ℕ)) : Type 0 where
  pub text : List ℕ
  pub front : IsBundleFront bytes without budget text
  pub written : AppendedPrefix taken_before taken_after text
