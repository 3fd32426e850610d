-- Queries of a function, clauses that stand for them, and when one is spent (Wang, Zeldovich, Kaashoek, Solar-Lezama,
-- SOSP 2013, section 4.4: queries go to a solver that may give up).
use Rattle.std.specs.Prelude.{◌≡◌, ℕ, ◌+◌, ◌<◌, ◌≤◌, List, ℤ, map}
use Rattle.stk_tree.specs.Syntax.{FunctionTree}
use Rattle.stk_numbers.specs.Kinds.{width_of}
use Rattle.stk_numbers.specs.declared.conditions.Candidate.{Candidate}
use Rattle.stk_numbers.specs.declared.conditions.Condition.{Condition}
use Rattle.stk_numbers.specs.declared.conditions.Kinds.{Kinds}
use Rattle.stk_meaning.specs.Typings.{Typing}
use Rattle.stk_meaning.specs.Keys.{keys_of, input_bits}
use Rattle.stk_meaning.specs.Weights.{weight}
use Rattle.stk_meaning.specs.Maps.{IsValid}
use Rattle.stk_meaning.specs.Paths.{path}
use Rattle.stk_meaning.specs.Hits.{HitsFree}
use Rattle.stk_meaning.specs.PathFindings.{most_bits}
use Rattle.stk_symbols.specs.Symbolic.{residues_of}
use Rattle.stk_clauses.specs.declared.store.Cnf.{Cnf}
use Rattle.stk_clauses.specs.declared.derivation.Derivation.{Derivation}
use Rattle.stk_clauses.specs.Derivations.{IsSpentLog}
use Rattle.stk_goal_clauses.specs.Standing.{StandsForInputs}

module _ (ty : Typing) (without : Kinds) (f : FunctionTree) (c : Candidate) (set : List Condition) where
  -- these are the residues of a valid input map whose path run hits the candidate free of the set
  pub record AnswersByResidues (residues : List ℕ) : Type 0 where
    pub numbers : List ℤ
    pub same : residues_of (map (λ k. k.kind) (keys_of ty without f)) numbers ≡ residues
    pub valid : IsValid ty without f numbers
    pub hits : HitsFree set c (path ty without f numbers)

  -- clauses stand for the query of a candidate for a set of conditions: their inputs are the bits of the keys, in
  -- order, the least bit first
  abbrev pub StandsForQuery : Cnf → Type 0
  StandsForQuery list = StandsForInputs (map (λ k. width_of k.kind) (keys_of ty without f)) AnswersByResidues list

  -- The query is spent at a budget: the function has so many input bits that not all maps are tried, and over clauses
  -- that stand for the query, with at most as many variables as the function has input bits and weight, there is a log
  -- of exactly so many steps that leaves a conflict standing.
  pub record IsSpentQuery (budget : ℕ) : Type 0 where
    pub wide : most_bits < input_bits (keys_of ty without f)
    pub list : Cnf
    pub log : Derivation
    pub stands : StandsForQuery list
    pub within : list.vars ≤ input_bits (keys_of ty without f) + weight ty without f
    pub spent : IsSpentLog list.vars list.store budget log.steps

-- which queries of a function may be given up at a budget
abbrev pub spent_at : Typing → Kinds → FunctionTree → ℕ → Candidate → List Condition → Type 0
spent_at ty without f budget c set = IsSpentQuery ty without f c set budget
