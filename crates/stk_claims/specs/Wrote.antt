-- What a sink took of the parts of findings.
use Rattle.std.specs.Prelude.{◌≡◌, ◌⊎◌, ℕ, Bool, ◌||◌, List, Option}
use Rattle.stk_base.specs.Streams.{Appended, AppendedPrefix}
use Rattle.stk_tree.specs.Syntax.{FunctionTree}
use Rattle.stk_numbers.specs.declared.conditions.Candidate.{Candidate}
use Rattle.stk_numbers.specs.declared.conditions.Kinds.{Kinds}
use Rattle.stk_meaning.specs.Typings.{Typing}
use Rattle.stk_meaning.specs.declared.finding.Finding.{Finding}
use Rattle.stk_spent_queries.specs.Marks.{AreCounted}
use Rattle.stk_bundle.specs.Bundles.{LineBlock, parts_text}
use Rattle.stk_claims.specs.Parts.{AreFindingParts, left_count, further_parts, are_some}

module _ (ty : Typing) (without : Kinds) (f : FunctionTree) (budget at : ℕ) (c : Candidate) (x : Finding) (begun : Bool) where
  -- a sink took lawful parts of a finding, the line of the function in front of its first ones; there are some where it
  -- says so; and a count of what was given up tells of the candidates without a claim
  pub record WroteFinding (before after : Option (List ℕ)) (first last : ℕ) (now : Bool) : Type 0 where
    pub parts : List LineBlock
    pub are : AreFindingParts ty without f budget c x parts
    pub written : Appended before after (parts_text (further_parts at begun parts))
    pub begun_now : now ≡ (begun || are_some parts)
    pub counted : AreCounted first last (left_count parts)

  -- a sink took some prefix of such parts
  pub record WroteFindingPrefix (before after : Option (List ℕ)) : Type 0 where
    pub parts : List LineBlock
    pub are : AreFindingParts ty without f budget c x parts
    pub written : AppendedPrefix before after (parts_text (further_parts at begun parts))

  -- a sink took nothing, or some prefix
  abbrev pub HasStoppedAt : Option (List ℕ) → Option (List ℕ) → Type 0
  HasStoppedAt before after = (after ≡ before) ⊎ WroteFindingPrefix before after
