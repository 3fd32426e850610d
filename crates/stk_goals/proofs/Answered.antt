-- What the goal of a query says of the query.
use Rattle.std.proofs.Common.{◌≡◌, ℕ, ◌+◌, ◌^◌, ◌<◌, ◌≤◌, Bool, true, false, ◌&&◌, List, [], ◌∷◌, ℤ, map, slice_get, Some, refl, sym, ap, subst, ◌∙◌, arith}
use Rattle.std.specs.Prelude.{sum, ◌↔◌}
use Rattle.std.proofs.lemmas.List.Sums.{sum-map}
use Rattle.std.proofs.lemmas.Option.{get_or_from_slice_get, slice_get_within}
use Rattle.stk_ctype.specs.declared.kind.IntKind.{IntKind}
use Rattle.stk_tree.specs.Syntax.{FunctionTree}
use Rattle.stk_numbers.specs.Kinds.{width_of}
use Rattle.stk_numbers.specs.declared.conditions.Candidate.{Candidate}
use Rattle.stk_numbers.specs.declared.conditions.Condition.{Condition}
use Rattle.stk_numbers.specs.declared.conditions.Kinds.{Kinds}
use Rattle.stk_meaning.specs.Typings.{Typing}
use Rattle.stk_meaning.specs.Keys.{KeyInfo, keys_of, input_bits}
use Rattle.stk_meaning.specs.Maps.{AreInRange}
use Rattle.stk_meaning.specs.Paths.{path}
use Rattle.stk_meaning.specs.Lists.{candidates}
use Rattle.stk_meaning.specs.Hits.{is_hit_free}
use Rattle.stk_meaning.specs.Weights as weights
use Rattle.stk_meaning.proofs.HitLemmas.{found, finds}
use Rattle.stk_type_laws.proofs.KeyWeights.{keys_are_within_weight}
use Rattle.stk_terms.specs.Terms.{Stored}
use Rattle.stk_terms.specs.Fitting.{AreResidues}
use Rattle.stk_terms.specs.Values.{bit, number_at}
use Rattle.stk_terms.specs.Cost.{cost}
use Rattle.stk_event_laws.specs.Positions.{listed_events}
use Rattle.stk_symbols.specs.Goals as goals
use Rattle.stk_symbols.specs.Symbolic.{Covers, residues_of}
use Rattle.stk_symbols.specs.Maps.{map_of}
use Rattle.stk_symbols.proofs.Mapped.{one_for_one}
use Rattle.stk_goal_laws.proofs.Queries.{goals_of_queries}
use Rattle.stk_clauses.specs.declared.store.Cnf.{Cnf}
use Rattle.stk_clauses.specs.declared.derivation.Derivation.{Derivation}
use Rattle.stk_clauses.specs.Derivations.{IsSpentLog}
use Rattle.stk_goal_clauses.specs.Standing.{StandsForInputs, StandsForGoal, IsWithinBound}
use Rattle.stk_goal_clauses.specs.Laws.{MakesOne, IsNever}
use Rattle.stk_spent_queries.specs.Spent.{AnswersByResidues, StandsForQuery, IsSpentQuery}
use Rattle.stk_goals.specs.Queries.{key_kinds, has_addresses, AnswersQuery, HasNoAnswer, IsGoalOf}

-- ---- keys and their kinds

in_range : (keys : List KeyInfo) (m : List ℤ) → Covers (map (λ k. k.kind) keys) m → AreInRange keys m
in_range [] [] h = tt
in_range [] (z ∷ zs) h = absurd h
in_range (k ∷ ks) [] h = absurd h
in_range (k ∷ ks) (z ∷ zs) h = (h.0, in_range ks zs h.1)

covers : (keys : List KeyInfo) (m : List ℤ) → AreInRange keys m → Covers (map (λ k. k.kind) keys) m
covers [] [] h = tt
covers [] (z ∷ zs) h = absurd h
covers (k ∷ ks) [] h = absurd h
covers (k ∷ ks) (z ∷ zs) h = (h.0, covers ks zs h.1)

pub widths_are : (keys : List KeyInfo) → map width_of (map (λ k. k.kind) keys) ≡ map (λ k. width_of k.kind) keys
widths_are [] = refl
widths_are (k ∷ ks) = ap (λ ws. width_of k.kind ∷ ws) (widths_are ks)

bits_are : (keys : List KeyInfo) → sum (map width_of (map (λ k. k.kind) keys)) ≡ input_bits keys
bits_are keys = ap sum (widths_are keys) ∙ sum-map (λ (k : KeyInfo). width_of k.kind) keys

-- ---- bits

bit_one : (b : Bool) → bit b ≡ 1 → b ≡ true
bit_one true e = refl
bit_one false e = absurd (cc)

left_true : (a b : Bool) → (a && b) ≡ true → a ≡ true
left_true true b e = refl
left_true false b e = absurd (cc)

right_true : (a b : Bool) → (a && b) ≡ true → b ≡ true
right_true true b e = e
right_true false b e = absurd (cc)

both_true : (a b : Bool) → a ≡ true → b ≡ true → (a && b) ≡ true
both_true true b e h = h
both_true false b e h = absurd (cc)

module _ (ty : Typing) (without : Kinds) (f : FunctionTree) (c : Candidate) (set : List Condition) where
  abbrev ks : List IntKind
  ks = key_kinds ty without f

  -- what a goal by the position of the candidate says of a run
  pub by_position : (j : ℕ) (m : List ℤ) → slice_get (candidates ty f) j ≡ Some c → goals.is_hit_free set j (listed_events (candidates ty f) (path ty without f m)) ≡ is_hit_free set c (path ty without f m)
  by_position j m at =
      goals_of_queries (candidates ty f) set j c (path ty without f m) (slice_get_within (candidates ty f) j c at)
      ∙ ap (λ d. is_hit_free set d (path ty without f m)) (get_or_from_slice_get (candidates ty f) j c c at)

  module _ (s : Stored) (i : ℕ) (h : IsGoalOf ty without f c set s i) where
    pub bits_of_goal : sum s.inputs ≡ input_bits (keys_of ty without f)
    bits_of_goal = ap sum h.inputs ∙ bits_are (keys_of ty without f)

    -- there is room for the clauses of a goal
    pub has_room : weights.weight ty without f ≤ weights.most_weight → sum s.inputs + cost s i < 2 ^ 29
    has_room light =
        let bits = keys_are_within_weight.bits ty without f in
        let same = bits_of_goal in
        let within = h.within in
        omega (arith, bits, same, within, light)

    -- a map that answers the query makes the goal 1
    answered : (m : List ℤ) → AnswersQuery ty without f c set m → number_at s (residues_of ks m) i ≡ 1
    answered m a = h.exact m (covers (keys_of ty without f) m a.valid.covers) ∙ ap bit (both_true _ _ a.valid.apart (finds set c (path ty without f m) a.hits))

    residues_fit : (m : List ℤ) → AnswersQuery ty without f c set m → AreResidues s.inputs (residues_of ks m)
    residues_fit m a = subst (λ ws. AreResidues ws (residues_of ks m)) (sym h.inputs) ((one_for_one ks).in_range m (covers (keys_of ty without f) m a.valid.covers))

    -- the map of residues that make the goal 1 answers the query
    module _ (rs : List ℕ) (fit : AreResidues (map width_of ks) rs) (one : number_at s rs i ≡ 1) where
      covered : Covers ks (map_of ks rs)
      covered = (one_for_one ks).covers rs fit

      back : residues_of ks (map_of ks rs) ≡ rs
      back = (one_for_one ks).residues rs fit

      true_there : (has_addresses ty without f (map_of ks rs) && is_hit_free set c (path ty without f (map_of ks rs))) ≡ true
      true_there = bit_one _ (sym (h.exact (map_of ks rs) covered) ∙ ap (λ r. number_at s r i) back ∙ one)

      pub map_answers : AnswersQuery ty without f c set (map_of ks rs)
      map_answers = record {
        valid = record { covers = in_range (keys_of ty without f) (map_of ks rs) covered; apart = left_true _ _ true_there };
        hits = found set c (path ty without f (map_of ks rs)) (right_true _ _ true_there);
      }

    pub start_answers : (rs : List ℕ) → MakesOne s i rs → AnswersQuery ty without f c set (map_of ks rs)
    start_answers rs one = map_answers rs (subst (λ ws. AreResidues ws rs) h.inputs one.fit) one.one

    pub none_answers : IsNever s i → HasNoAnswer ty without f c set
    none_answers never m a = never (residues_of ks m) (residues_fit m a) (answered m a)

    -- ---- clauses

    abbrev widths : List ℕ
    widths = map (λ k. width_of k.kind) (keys_of ty without f)

    same_widths : s.inputs ≡ widths
    same_widths = h.inputs ∙ widths_are (keys_of ty without f)

    to_map : (rs : List ℕ) → AreResidues widths rs → number_at s rs i ≡ 1 → AnswersByResidues ty without f c set rs
    to_map rs fit one =
        let fits : AreResidues (map width_of ks) rs = subst (λ ws. AreResidues ws rs) (sym (widths_are (keys_of ty without f))) fit in
        let a = map_answers rs fits one in
        record { numbers = map_of ks rs; same = back rs fits one; valid = a.valid; hits = a.hits }

    from_map : (rs : List ℕ) → AnswersByResidues ty without f c set rs → number_at s rs i ≡ 1
    from_map rs a = sym (ap (λ r. number_at s r i) a.same) ∙ answered a.numbers (record { valid = a.valid; hits = a.hits })

    -- the residues that make the goal 1 are those of maps that answer the query
    pub by_residues : (rs : List ℕ) → AreResidues s.inputs rs → (number_at s rs i ≡ 1) ↔ AnswersByResidues ty without f c set rs
    by_residues rs fit = (to_map rs (subst (λ ws. AreResidues ws rs) same_widths fit), from_map rs)

    pub stands_for : (list : Cnf) → StandsForGoal s i list → StandsForQuery ty without f c set list
    stands_for list g =
        let k : StandsForInputs widths (λ rs. number_at s rs i ≡ 1) list = subst (λ ws. StandsForInputs ws (λ rs. number_at s rs i ≡ 1) list) same_widths g in
        record {
          table = k.table;
          edge = k.edge;
          ordered = k.ordered;
          among = k.among;
          bits = k.bits;
          exact = λ rs fit. ((λ e. to_map rs fit ((k.exact rs fit).0 e)), (λ a. (k.exact rs fit).1 (from_map rs a)));
          stands = k.stands;
        }

    pub is_spent : (budget : ℕ) (list : Cnf) (log : Derivation) → 16 < sum s.inputs → StandsForGoal s i list → IsWithinBound s i list → IsSpentLog list.vars list.store budget log.steps → IsSpentQuery ty without f c set budget
    is_spent budget list log wide stands within spent =
        let same = bits_of_goal in
        let cheap = h.within in
        record {
          wide = omega (arith, wide, same);
          list = list;
          log = log;
          stands = stands_for list stands;
          within = omega (arith, within, same, cheap);
          spent = spent;
        }
