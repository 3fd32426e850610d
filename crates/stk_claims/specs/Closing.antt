-- What closes the claim of a report: that no input map's path run hits the candidate free of the set.
use Rattle.std.specs.Prelude.{◌≡◌, ℕ, ◌+◌, ◌^◌, ◌<◌, ◌≤◌, Bool, true, false, List, length, sum}
use Rattle.stk_tree.specs.Syntax.{FunctionTree}
use Rattle.stk_tree.specs.View.{view_function}
use Rattle.stk_numbers.specs.declared.conditions.Candidate.{Candidate}
use Rattle.stk_numbers.specs.declared.conditions.Condition.{Condition}
use Rattle.stk_numbers.specs.declared.conditions.Kinds.{Kinds}
use Rattle.stk_meaning.specs.Typings.{Typing}
use Rattle.stk_meaning.specs.Keys.{keys_of, input_bits}
use Rattle.stk_meaning.specs.Lists.{candidates}
use Rattle.stk_meaning.specs.Findings.{members}
use Rattle.stk_meaning.specs.declared.finding.Finding.{Finding}
use Rattle.stk_meaning.specs.declared.finding.Finding.TheVariants.{Clear, Unstable, Undecided}
use Rattle.stk_meaning.specs.PathFindings.{most_bits}
use Rattle.stk_meaning.specs.Weights.{weight}
use Rattle.stk_function_types.specs.Nodes.{typing_in}
use Rattle.stk_clauses.specs.declared.store.Cnf.{Cnf}
use Rattle.stk_clauses.specs.declared.derivation.Derivation.{Derivation}
use Rattle.stk_clauses.specs.Derivations.{IsRefutation}
use Rattle.stk_spent_queries.specs.Spent.{StandsForQuery, IsSpentQuery}
use Rattle.stk_goals.specs.Searched.{IsSearched}
use Rattle.stk_terms.specs.Values.{width_at}
use Rattle.stk_terms.specs.Cost.{cost}
use Rattle.stk_rewrite.specs.Normal.{IsNormal}
use Rattle.stk_goals.specs.declared.query_goal.QueryGoal.{QueryGoal}
use Rattle.stk_goals.specs.Queries.{key_kinds, HasNoAnswer, IsGoalOf}
use Rattle.stk_claims.specs.declared.closing.Closing.{Closing}
use Rattle.stk_claims.specs.declared.closing.Closing.TheVariants.{Tried, Refuted, GivenUp}
use Rattle.stk_claims.specs.declared.function.ClaimedFunction.{ClaimedFunction}
use Rattle.stk_claims.specs.declared.function.Report.{Report}

module _ (ty : Typing) (without : Kinds) (f : FunctionTree) (c : Candidate) (set : List Condition) where
  -- The function has so many input bits that not all maps are tried; a clause list stands for the query of the
  -- candidate for the set, with at most as many variables as the function has input bits and weight; and a derivation
  -- refutes it, of at most as many steps as the budget has and one more.
  pub record IsProof (budget : ℕ) (list : Cnf) (derivation : Derivation) : Type 0 where
    pub wide : most_bits < input_bits (keys_of ty without f)
    pub stands : StandsForQuery ty without f c set list
    pub within : list.vars ≤ input_bits (keys_of ty without f) + weight ty without f
    pub refutes : IsRefutation list.vars list.store derivation.steps
    pub short : length derivation.steps ≤ budget + 1

  -- a claim may be closed so at a budget: all maps were tried, where the function has few input bits; a proof of it
  -- stands; or its query is spent
  abbrev pub Closes : ℕ → Closing → Type 0
  Closes budget Tried = input_bits (keys_of ty without f) ≤ most_bits
  Closes budget (Refuted list derivation) = IsProof budget list derivation
  Closes budget GivenUp = IsSpentQuery ty without f c set budget

-- what is sure of a finding: no map answers the query of a report's set
abbrev pub IsSure : Typing → Kinds → FunctionTree → Candidate → Finding → Type 0
IsSure ty without f c Clear = Unit {0}
IsSure ty without f c (Unstable start needs) = HasNoAnswer ty without f c (members needs)
IsSure ty without f c (Undecided phase) = Unit {0}

-- whether the query was given up
abbrev pub is_given_up : Closing → Bool
is_given_up Tried = false
is_given_up (Refuted list derivation) = false
is_given_up GivenUp = true

-- the typing of a function whose reports are claimed, the kinds of conditions that are taken out, and its tree
abbrev pub typing_of : ClaimedFunction → Typing
typing_of x = typing_in x.tables.now.places.types

abbrev pub without_of : ClaimedFunction → Kinds
without_of x = x.tables.now.places.without

abbrev pub tree_of : ClaimedFunction → FunctionTree
tree_of x = view_function x.function.now

-- It is searched, the candidates are all that it has, the kinds are those of its keys, and the budget is one that a
-- query may have.
pub record IsClaimed (x : ClaimedFunction) : Type 0 where
  pub searched : IsSearched x.tables.now (tree_of x)
  pub candidates : x.candidates.now ≡ candidates (typing_of x) (tree_of x)
  pub kinds : x.kinds.now ≡ key_kinds (typing_of x) (without_of x) (tree_of x)
  pub least : 1 ≤ x.budget
  pub most : x.budget ≤ 200000

-- a goal of the query of a candidate for a set, in a store of its own, as it is asked of a decider
pub record IsGoalOfReport (x : ClaimedFunction) (c : Candidate) (set : List Condition) (g : QueryGoal) : Type 0 where
  pub goal : IsGoalOf (typing_of x) (without_of x) (tree_of x) c set g.symbols.terms g.term.0
  pub one : width_at g.symbols.terms g.term.0 ≡ 1
  pub normal : IsNormal g.symbols.terms g.term.0
  pub room : sum g.symbols.terms.inputs + cost g.symbols.terms g.term.0 < 2 ^ 29

-- the finding that a report is
abbrev pub reported : Report → Finding
reported r = Unstable r.start.now r.needs.now
