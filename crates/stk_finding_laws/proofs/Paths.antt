-- The findings of a function by its path runs, of any number of input bits.
use Rattle.std.proofs.Common.{◌≡◌, Bool, true, List, ℤ}
use Rattle.stk_tree.specs.Syntax.{FunctionTree}
use Rattle.stk_numbers.specs.declared.conditions.Candidate.{Candidate}
use Rattle.stk_numbers.specs.declared.conditions.Condition.{Condition}
use Rattle.stk_numbers.specs.declared.conditions.Kinds.{Kinds}
use Rattle.stk_meaning.specs.Typings.{Typing}
use Rattle.stk_meaning.specs.Keys.{keys_of, kept_of, objects_of}
use Rattle.stk_meaning.specs.Maps.{IsValid, are_valid, addresses_in}
use Rattle.stk_meaning.specs.Paths.{number_under}
use Rattle.stk_meaning.specs.declared.finding.Finding.{Finding}
use Rattle.stk_meaning.specs.Findings.{NoAnswer, AreLawful}
use Rattle.stk_meaning.specs.PathFindings.{function_subject}
use Rattle.stk_meaning.specs.Sufficient.{IsPathSufficient, IsSufficient}
use Rattle.stk_hits.specs.InputMaps.{Covers}
use Rattle.stk_hits.specs.PathSubjects.{path_subject, kinds_of}
use Rattle.stk_hits.proofs.KeyKinds.{covers, in_range, precedes}
use Rattle.stk_finding_laws.proofs.Deciding.{IsDecided, findings_of}
use Rattle.stk_finding_laws.proofs.Numbered.{HasMapsOf, asked}

module _ (ty : Typing) (without : Kinds) (f : FunctionTree) where
  -- the addresses of a map are valid
  abbrev Passes : List ℤ → Bool
  Passes xs = are_valid (kept_of ty without f) (objects_of ty without f) (addresses_in (number_under (keys_of ty without f) xs))

  valid : (xs : List ℤ) → Covers (kinds_of (keys_of ty without f)) xs → Passes xs ≡ true → IsValid ty without f xs
  valid xs h apart = record { covers = in_range (keys_of ty without f) xs h; apart = apart }

  path_maps : HasMapsOf (path_subject ty without f) (kinds_of (keys_of ty without f)) Passes
  path_maps = record {
    maps = valid;
    back = λ xs v. covers (keys_of ty without f) xs v.covers;
    pass = λ xs v. v.apart;
    before = λ xs ys b. precedes (keys_of ty without f) xs ys b;
  }

  path_decided : IsDecided (path_subject ty without f)
  path_decided = record {
    asked = λ c set. asked (path_subject ty without f) (kinds_of (keys_of ty without f)) Passes path_maps c set;
    suffices = λ c set u never. tt;
  }

  pub path_findings : (cs : List Candidate) → (xs : List Finding) × AreLawful (path_subject ty without f) cs xs
  path_findings cs = findings_of (path_subject ty without f) path_decided cs

  -- ---- with what suffices in executions

  module _ (spent : Candidate → List Condition → Type 0) where
    function_maps : HasMapsOf (function_subject ty without f spent) (kinds_of (keys_of ty without f)) Passes
    function_maps = record {
      maps = valid;
      back = λ xs v. covers (keys_of ty without f) xs v.covers;
      pass = λ xs v. v.apart;
      before = λ xs ys b. precedes (keys_of ty without f) xs ys b;
    }

    -- what no map's run hits free of is sufficient in path runs
    path_sufficient : (c : Candidate) (set : List Condition) → NoAnswer (function_subject ty without f spent) c set → IsPathSufficient ty without f c set
    path_sufficient c set never = record { by = λ numbers valid hits. never numbers (record { valid = valid; hits = hits }) }

    -- where sets that suffice in path runs suffice in every execution, each candidate has a finding whose set does
    pub function_findings : ((c : Candidate) (set : List Condition) → IsPathSufficient ty without f c set → IsSufficient ty without f c set) → (cs : List Candidate) → (xs : List Finding) × AreLawful (function_subject ty without f spent) cs xs
    function_findings suffices cs = findings_of (function_subject ty without f spent) (record {
      asked = λ c set. asked (function_subject ty without f spent) (kinds_of (keys_of ty without f)) Passes function_maps c set;
      suffices = λ c set u never. suffices c set (path_sufficient c set never);
    }) cs
