-- What a sink took of the part of a bundle that a function has.
use Rattle.std.specs.Prelude.{◌≡◌, ◌⊎◌, ℕ, ◌+◌, List, take, Option}
use Rattle.stk_base.specs.Streams.{Appended, AppendedPrefix}
use Rattle.stk_tree.specs.Syntax.{FunctionTree}
use Rattle.stk_numbers.specs.declared.conditions.Candidate.{Candidate}
use Rattle.stk_numbers.specs.declared.conditions.Kinds.{Kinds}
use Rattle.stk_meaning.specs.Typings.{Typing}
use Rattle.stk_meaning.specs.Lists.{candidates}
use Rattle.stk_meaning.specs.declared.finding.Finding.{Finding}
use Rattle.stk_meaning.specs.Findings.{Subject, AreLawful}
use Rattle.stk_meaning.specs.PathFindings.{function_subject}
use Rattle.stk_spent_queries.specs.Marks.{all_marks, AreCounted}
use Rattle.stk_spent_queries.specs.Spent.{spent_at}
use Rattle.stk_bundle.specs.Bundles.{LineBlock, parts_text}
use Rattle.stk_claims.specs.Parts.{AreClaims, function_parts, left_count}
use Rattle.stk_records.specs.declared.counts.Counts.{Counts}
use Rattle.stk_units.specs.Counted.{one_judged}

module _ (subject : Subject) (ty : Typing) (without : Kinds) (f : FunctionTree) (budget at : ℕ) (cs : List Candidate) (before after : Option (List ℕ)) where
  -- A sink took the part of a function whose definition begins at this byte: the claims of lawful findings of its
  -- candidates, behind the line of the function where there are some; these are the counts of the findings; and a count
  -- of what was given up tells of the marks of the findings and of the candidates without a claim.
  pub record WroteClaims (first last : ℕ) (counts : Counts) : Type 0 where
    pub findings : List Finding
    pub claims : List LineBlock
    pub lawful : AreLawful subject cs findings
    pub are : AreClaims ty without f budget cs findings claims
    pub same_counts : counts ≡ one_judged findings
    pub written : Appended before after (parts_text (function_parts at claims))
    pub counted : AreCounted first last (all_marks findings + left_count claims)

  -- a sink took some prefix of the claims of lawful findings of the first so many candidates
  pub record WroteClaimsPrefix : Type 0 where
    pub count : ℕ
    pub findings : List Finding
    pub claims : List LineBlock
    pub lawful : AreLawful subject (take count cs) findings
    pub are : AreClaims ty without f budget (take count cs) findings claims
    pub written : AppendedPrefix before after (parts_text (function_parts at claims))

  -- a sink took nothing, or some prefix
  abbrev pub HasStopped : Type 0
  HasStopped = (after ≡ before) ⊎ WroteClaimsPrefix

-- The same of a function whole, at a budget: each set that is reported suffices in path runs and in every execution,
-- and a query is given up only where it is spent.
abbrev pub WroteFunction : Typing → Kinds → FunctionTree → ℕ → ℕ → Option (List ℕ) → Option (List ℕ) → ℕ → ℕ → Counts → Type 0
WroteFunction ty without f budget at before after first last counts =
    WroteClaims (function_subject ty without f (spent_at ty without f budget)) ty without f budget at (candidates ty f) before after first last counts

abbrev pub HasStoppedIn : Typing → Kinds → FunctionTree → ℕ → ℕ → Option (List ℕ) → Option (List ℕ) → Type 0
HasStoppedIn ty without f budget at before after =
    HasStopped (function_subject ty without f (spent_at ty without f budget)) ty without f budget at (candidates ty f) before after
