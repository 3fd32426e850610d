-- How the search for a candidate goes on over functions.
use Rattle.std.proofs.Common.{◌≡◌, ℕ, ◌+◌, ◌-◌, ◌<◌, ◌≤◌, ◌⊎◌, inl, inr, Bool, true, false, List, [], ◌++◌, length, map, Option, Some, None, Result, Ok, Err, refl, sym, ap, subst, ◌∙◌, arith}
use Rattle.std.specs.Prelude.{slice_get, is_some, OnOk}
use Rattle.std.specs.Global.{Vec}
use Rattle.std.proofs.lemmas.List.{append-nil, length-append, length-map}
use Rattle.stk_lex.specs.declared.token.Token.{Token}
use Rattle.stk_ctype.specs.declared.symbol.NameEntry.{NameEntry}
use Rattle.stk_tree.specs.Syntax.{FunctionTree}
use Rattle.stk_numbers.specs.declared.conditions.Candidate.{Candidate}
use Rattle.stk_numbers.specs.declared.conditions.Kinds.{Kinds}
use Rattle.stk_meaning.specs.Typings.{Typing}
use Rattle.stk_meaning.specs.Lists.{candidates}
use Rattle.stk_records.specs.declared.options.ConditionSet.{ConditionSet}
use Rattle.stk_records.specs.declared.writing.Stop.{Stop}
use Rattle.stk_records.specs.declared.writing.Stop.TheVariants as stops
use Rattle.stk_units.specs.Outcomes.{UnitOutcome, no_function, left_out, is_judged}
use Rattle.stk_units.specs.Visiting.{HasDone, HasVisitedUnit}
use Rattle.stk_query_scripts.specs.declared.search.ScriptSearch.{ScriptSearch}
use Rattle.stk_query_scripts.specs.Queries.{IsCandidateScript, FunctionCandidate, candidate_of, function_candidates, outcome_candidates, IsNumberedScript}
use Rattle.stk_query_scripts.specs.Searches.{Knows, IsBehind, GoesOn, LeavesSearch, JudgesSearch, HasSearchedUnit}
use Rattle.stk_query_scripts.proofs.Places.{slice_get_front, slice_get_behind, slice_get_map}

well_is_no_want : {x : Unit {0}} {r : Result (Unit {0}) Stop} → r ≡ Ok x → r ≡ Err stops.NoMemory → ⊥
well_is_no_want well want = cc

ok_then : {x : Unit {0}} (r : Result (Unit {0}) Stop) (P : Type 0) → r ≡ Ok x → OnOk r P → P
ok_then r P e h = subst (λ r. OnOk r P) e h

-- a script of a candidate is one behind more candidates too
pub numbered_more : (without : Kinds) (all more : List FunctionCandidate) (number : ℕ) (set : ConditionSet) (text : List ℕ) → IsNumberedScript without all number set text → IsNumberedScript without (all ++ more) number set text
numbered_more without all more number set text h = record { found = h.found; counted = h.counted; stands = slice_get_front all more (number - 1) h.found h.stands; script = h.script }

-- the script was found before
pub found_before : (without : Kinds) (more : List FunctionCandidate) (search : ScriptSearch) (text : Vec ℕ) → search.script ≡ Some text → GoesOn without more search search
found_before without more search text e = record {
  set = refl;
  behind = λ number all h. record {
    knows = subst (λ (s : Option (Vec ℕ)). Knows without number search.set (all ++ more) search.before s) (sym e)
        (numbered_more without all more number search.set text.items (subst (λ (s : Option (Vec ℕ)). Knows without number search.set all search.before s) e h.knows));
  };
}

pub found_before_is : (without : Kinds) (more : List FunctionCandidate) (search : ScriptSearch) → is_some search.script ≡ true → GoesOn without more search search
found_before_is without more search some = on search.script refl some where
  on : (s : Option (Vec ℕ)) → search.script ≡ s → is_some s ≡ true → GoesOn without more search search
  on None same e = absurd cc
  on (Some text) same e = found_before without more search text same

pub none_is : (s : Option (Vec ℕ)) → is_some s ≡ false → s ≡ None
none_is None e = refl
none_is (Some text) e = absurd cc

-- the candidates of a function come before the one that is looked for
pub passed_over : (without : Kinds) (ty : Typing) (f : FunctionTree) (search later : ScriptSearch) (count : ℕ) → search.script ≡ None → count ≡ length (candidates ty f) → count ≤ search.before
    → later ≡ record search { before = search.before - count } → GoesOn without (function_candidates ty f) search later
passed_over without ty f search later count none same less is =
    subst (GoesOn without (function_candidates ty f) search) (sym is)
    (record {
      set = refl;
      behind = λ number all h.
          let before = subst (λ (s : Option (Vec ℕ)). Knows without number search.set all search.before s) none h.knows in
          let long = length-append all (function_candidates ty f) in
          let many = length-map (candidates ty f) (candidate_of ty f) in
          record {
            knows = subst (λ (s : Option (Vec ℕ)). Knows without number search.set (all ++ function_candidates ty f) (search.before - count) s) (sym none) (omega (arith, less, before, long, many, same));
          };
    })

-- the one that is looked for is among them
pub found_here : (without : Kinds) (ty : Typing) (f : FunctionTree) (search later : ScriptSearch) (at : ℕ) (text : Vec ℕ) → search.script ≡ None → at ≡ search.before → IsCandidateScript ty without f at search.set text.items
    → later ≡ record search { script = Some text } → GoesOn without (function_candidates ty f) search later
found_here without ty f search later at text none same made is =
    subst (GoesOn without (function_candidates ty f) search) (sym is)
    (record {
      set = refl;
      behind = λ number all h.
          let before = subst (λ (s : Option (Vec ℕ)). Knows without number search.set all search.before s) none h.knows in
          let place : number - 1 ≡ length all + at = omega (arith, same, before) in
          record {
            knows = record {
              found = candidate_of ty f made.candidate;
              counted = omega (arith, before);
              stands = slice_get_behind all (function_candidates ty f) (number - 1) at place ∙ slice_get_map (candidate_of ty f) (candidates ty f) at made.candidate made.stands;
              script = made.script;
            };
          };
    })

-- a unit without a function changes nothing
pub nothing_more : (without : Kinds) (search later : ScriptSearch) → later ≡ search → GoesOn without [] search later
nothing_more without search later same =
    subst (GoesOn without [] search) (sym same)
    (record {
      set = refl;
      behind = λ number all h. record { knows = subst (λ (xs : List FunctionCandidate). Knows without number search.set xs search.before search.script) (sym (append-nil all)) h.knows };
    })

-- what was done with a unit goes on over its candidates
pub searched_unit : {x : Unit {0}} (bytes : List ℕ) (without : Kinds) (mark : Bool) (es now : List NameEntry) (body : Option ℕ) (tokens : List Token) (r : Result (Unit {0}) Stop) (search later : ScriptSearch) (o p a b : Unit {0}) → r ≡ Ok x
    → HasVisitedUnit LeavesSearch JudgesSearch bytes without mark es body tokens now r search later o p a b → HasSearchedUnit bytes without mark es body tokens now search later
searched_unit bytes without mark es now body tokens r search later o p a b well (inl before) = absurd (well_is_no_want well before.answer)
searched_unit bytes without mark es now body tokens r search later o p a b well (inr visited) = record { outcome = visited.outcome; is = visited.is; goes_on = by visited.outcome visited.done } where
  by : (x : UnitOutcome) → HasDone LeavesSearch JudgesSearch bytes without now tokens x r search later o p a b → GoesOn without (outcome_candidates bytes now x) search later
  by no_function done = nothing_more without search later done.1.visitor
  by (left_out cause) done = nothing_more without search later done.1.visitor
  by (is_judged node f) done = ok_then r _ well done
