-- The queries of a function, and the terms that are 1 exactly for the maps that answer one (Wang, Zeldovich, Kaashoek,
-- Solar-Lezama, SOSP 2013, sections 3 and 4.4).
use Rattle.std.specs.Prelude.{◌≡◌, ℕ, ◌≤◌, Bool, ◌&&◌, List, ℤ, map}
use Rattle.stk_ctype.specs.declared.kind.IntKind.{IntKind}
use Rattle.stk_tree.specs.Syntax.{FunctionTree}
use Rattle.stk_numbers.specs.Kinds.{width_of}
use Rattle.stk_numbers.specs.declared.conditions.Candidate.{Candidate}
use Rattle.stk_numbers.specs.declared.conditions.Condition.{Condition}
use Rattle.stk_numbers.specs.declared.conditions.Kinds.{Kinds}
use Rattle.stk_meaning.specs.Typings.{Typing}
use Rattle.stk_meaning.specs.Keys.{KeyInfo, keys_of, kept_of, objects_of}
use Rattle.stk_meaning.specs.Maps.{are_valid, addresses_in, IsValid}
use Rattle.stk_meaning.specs.Paths.{number_under, path}
use Rattle.stk_meaning.specs.Hits.{HitsFree, is_hit_free}
use Rattle.stk_meaning.specs.Weights as weights
use Rattle.stk_terms.specs.Terms.{Stored}
use Rattle.stk_terms.specs.Values.{bit, number_at}
use Rattle.stk_terms.specs.Cost.{cost}
use Rattle.stk_symbols.specs.Symbolic.{Covers, residues_of}

-- the kinds of the keys of a function, in order
abbrev pub key_kinds : Typing → Kinds → FunctionTree → List IntKind
key_kinds ty without f = map (λ (k : KeyInfo). k.kind) (keys_of ty without f)

-- whether the addresses that a map gives are valid
abbrev pub has_addresses : Typing → Kinds → FunctionTree → List ℤ → Bool
has_addresses ty without f m = are_valid (kept_of ty without f) (objects_of ty without f) (addresses_in (number_under (keys_of ty without f) m))

module _ (ty : Typing) (without : Kinds) (f : FunctionTree) (c : Candidate) (set : List Condition) where
  -- a valid map whose path run hits the candidate free of the set answers the query
  pub record AnswersQuery (m : List ℤ) : Type 0 where
    pub valid : IsValid ty without f m
    pub hits : HitsFree set c (path ty without f m)

  -- no map does
  abbrev pub HasNoAnswer : Type 0
  HasNoAnswer = (m : List ℤ) → AnswersQuery m → ⊥

  -- A term is a goal of the query: the inputs are the keys, and for each map in range it is 1 exactly where the map
  -- answers the query. It costs no more than the function weighs.
  pub record IsGoalOf (s : Stored) (i : ℕ) : Type 0 where
    pub inputs : s.inputs ≡ map width_of (key_kinds ty without f)
    pub exact : (m : List ℤ) → Covers (key_kinds ty without f) m → number_at s (residues_of (key_kinds ty without f) m) i ≡ bit (has_addresses ty without f m && is_hit_free set c (path ty without f m))
    pub within : cost s i ≤ weights.weight ty without f
