-- How a candidate is looked for in units, one after the other.
use Rattle.std.proofs.Common.{◌≡◌, ℕ, suc, ◌+◌, ◌<◌, ◌≤◌, Bool, true, List, [], ◌∷◌, ◌++◌, length, drop, get_or, Option, Some, None, refl, sym, ap, subst, ◌∙◌, append_assoc, drop-cons, arith}
use Rattle.std.specs.Prelude.{is_some}
use Rattle.std.specs.Global.{Vec}
use Rattle.std.proofs.lemmas.List.{append-nil, length-append, drop_all}
use Rattle.stk_lex.specs.declared.token.Token.{Token}
use Rattle.stk_lex.specs.declared.cutting.Piece.{Piece}
use Rattle.stk_lex.specs.Units.{AreJoined}
use Rattle.stk_ctype.specs.declared.symbol.NameEntry.{NameEntry}
use Rattle.stk_numbers.specs.declared.conditions.Kinds.{Kinds}
use Rattle.stk_type_laws.specs.Orderly.{AreOrderly}
use Rattle.stk_type_laws.proofs.Kept.{units_keep_order}
use Rattle.stk_records.specs.declared.options.AskedScript.{AskedScript}
use Rattle.stk_records.specs.declared.options.ConditionSet.{ConditionSet}
use Rattle.stk_units.proofs.Exists.{outcome_exists}
use Rattle.stk_query_scripts.specs.declared.search.ScriptSearch.{ScriptSearch}
use Rattle.stk_query_scripts.specs.Queries.{FunctionCandidate, outcome_candidates, IsNumberedScript}
use Rattle.stk_query_scripts.specs.Searches.{Knows, IsBehind, HasSearchedUnit}
use Rattle.stk_query_scripts.proofs.Searching.{numbered_more}
use Rattle.stk_units.specs.Pieces.{body_of_piece, tokens_of_piece, AreUnitsOf}
use Rattle.stk_units.proofs.Going.{joined_up, IsNextUnit}
use Rattle.stk_lint.specs.Candidates.{AreCandidates, of_no_unit, of_unit, AreInputCandidates}
use Rattle.stk_lint.specs.Searched.{IsFound, IsFoundInUnits, IsFoundIn}

-- units have candidates
pub record HaveCandidates (bytes : List ℕ) (without : Kinds) (tokens : List Token) (es : List NameEntry) (ps : List Piece) : Type 0 where
  pub all : List FunctionCandidate
  pub are : AreCandidates bytes without tokens es ps all

pub candidates_exist : (bytes : List ℕ) (without : Kinds) (tokens : List Token) (es : List NameEntry) (ps : List Piece) → HaveCandidates bytes without tokens es ps
candidates_exist bytes without tokens es [] = record { all = []; are = of_no_unit }
candidates_exist bytes without tokens es (p ∷ ps) =
    let here = outcome_exists bytes without p.no_return es (body_of_piece p) (tokens_of_piece tokens p) in
    let others = candidates_exist bytes without tokens here.now ps in
    record { all = outcome_candidates bytes here.now here.outcome ++ others.all; are = of_unit here.outcome here.is others.are }

-- The units before the i-th were searched and leave these names in force; the candidates of those behind them make the
-- candidates of all.
pub record IsSearchedTo (bytes : List ℕ) (without : Kinds) (tokens : List Token) (pieces : List Piece) (asked : AskedScript) (i : ℕ) (now : List NameEntry) (search : ScriptSearch) : Type 0 where
  pub at : ℕ
  pub joined : AreJoined at (length tokens) (drop i pieces)
  pub orderly : AreOrderly now
  pub all : List FunctionCandidate
  pub set : search.set ≡ asked.set
  pub behind : IsBehind without asked.number all search
  pub goes_on : (more : List FunctionCandidate) → AreCandidates bytes without tokens now (drop i pieces) more → AreCandidates bytes without tokens [] pieces (all ++ more)

-- what is known of a search is known with another set that is the same
with_set : (without : Kinds) (number : ℕ) (all : List FunctionCandidate) (left : ℕ) (script : Option (Vec ℕ)) (set other : ConditionSet) → set ≡ other → Knows without number set all left script → Knows without number other all left script
with_set without number all left script set other e h = subst (λ (x : ConditionSet). Knows without number x all left script) e h

-- what was found among candidates is found among more, where no more come if nothing was
found_by : (without : Kinds) (asked : AskedScript) (all more : List FunctionCandidate) (left : ℕ) (script : Option (Vec ℕ)) → Knows without asked.number asked.set all left script → (script ≡ None → more ≡ []) → IsFound without (all ++ more) asked script
found_by without asked all more left None h none = omega (arith, h, length-append all more, ap length (none refl))
found_by without asked all more left (Some text) h none = numbered_more without all more asked.number asked.set text.items h

not_none : (script : Option (Vec ℕ)) (more : List FunctionCandidate) → is_some script ≡ true → script ≡ None → more ≡ []
not_none None more e same = absurd cc
not_none (Some text) more e same = absurd cc

module _ (bytes : List ℕ) (without : Kinds) (tokens : List Token) (pieces : List Piece) (asked : AskedScript) where
  pub none_searched : (search : ScriptSearch) → AreJoined 0 (length tokens) pieces → search.set ≡ asked.set → ((without : Kinds) → IsBehind without asked.number [] search) → IsSearchedTo bytes without tokens pieces asked 0 [] search
  none_searched search joined set behind = record { at = 0; joined = joined; orderly = units_keep_order.first; all = []; set = set; behind = behind without; goes_on = λ more are. are }

  here : (i : ℕ) (d : Piece) → i < length pieces → drop i pieces ≡ get_or pieces i d ∷ drop (i + 1) pieces
  here i d within = let e : suc i ≡ i + 1 = omega arith in drop-cons pieces i d within ∙ ap (λ n. get_or pieces i d ∷ drop n pieces) e

  pub next_unit : (i : ℕ) (d : Piece) (now : List NameEntry) (search : ScriptSearch) → i < length pieces → (h : IsSearchedTo bytes without tokens pieces asked i now search) → IsNextUnit (length tokens) h.at (get_or pieces i d) (drop (i + 1) pieces)
  next_unit i d now search within h =
      let p : Piece = get_or pieces i d in
      let k : AreJoined h.at (length tokens) (p ∷ drop (i + 1) pieces) = subst (AreJoined h.at (length tokens)) (here i d within) h.joined in
      record { from = k.0; some = omega (arith, k.0, k.1); within = joined_up p.to (length tokens) (drop (i + 1) pieces) k.3; rest = k.3 }

  -- one more unit
  pub one_more_searched : (i : ℕ) (d : Piece) (now left : List NameEntry) (search later : ScriptSearch) → i < length pieces → IsSearchedTo bytes without tokens pieces asked i now search → let p = get_or pieces i d in
      HasSearchedUnit bytes without p.no_return now (body_of_piece p) (tokens_of_piece tokens p) left search later → AreOrderly left → IsSearchedTo bytes without tokens pieces asked (i + 1) left later
  one_more_searched i d now left search later within h x orderly =
      let p : Piece = get_or pieces i d in
      let n = next_unit i d now search within h in
      let found = outcome_candidates bytes left x.outcome in
      record {
        at = p.to;
        joined = n.rest;
        orderly = orderly;
        all = h.all ++ found;
        set = x.goes_on.set ∙ h.set;
        behind = x.goes_on.behind asked.number h.all h.behind;
        goes_on = λ more are.
            let whole = h.goes_on (found ++ more) (subst (λ (ps : List Piece). AreCandidates bytes without tokens now ps (found ++ more)) (sym (here i d within)) (of_unit x.outcome x.is are)) in
            subst (λ (u : List FunctionCandidate). AreCandidates bytes without tokens [] pieces u) (sym (append_assoc h.all found more)) whole;
      }

  found_with : (i : ℕ) (now : List NameEntry) (search : ScriptSearch) (h : IsSearchedTo bytes without tokens pieces asked i now search) (more : List FunctionCandidate) → AreCandidates bytes without tokens now (drop i pieces) more → (search.script ≡ None → more ≡ []) → IsFoundInUnits bytes without tokens pieces asked search.script
  found_with i now search h more are none = record {
    all = h.all ++ more;
    are = h.goes_on more are;
    is = found_by without asked h.all more search.before search.script (with_set without asked.number h.all search.before search.script search.set asked.set h.set h.behind.knows) none;
  }

  -- the script was found, and the search stops
  pub found_early : (i : ℕ) (now : List NameEntry) (search : ScriptSearch) → IsSearchedTo bytes without tokens pieces asked i now search → is_some search.script ≡ true → IsFoundInUnits bytes without tokens pieces asked search.script
  found_early i now search h some =
      let others = candidates_exist bytes without tokens now (drop i pieces) in
      found_with i now search h others.all others.are (not_none search.script others.all some)

  -- all units were searched
  pub found_late : (i : ℕ) (now : List NameEntry) (search : ScriptSearch) → length pieces ≤ i → IsSearchedTo bytes without tokens pieces asked i now search → IsFoundInUnits bytes without tokens pieces asked search.script
  found_late i now search past h = found_with i now search h [] (subst (λ (ps : List Piece). AreCandidates bytes without tokens now ps []) (sym (drop_all i pieces past)) of_no_unit) (λ e. refl)

-- what is found in the units of an input is found in it
pub found_in : (bytes : List ℕ) (without : Kinds) (kept : List Token) (pieces : List Piece) (asked : AskedScript) (script : Option (Vec ℕ)) → AreUnitsOf bytes kept pieces → IsFoundInUnits bytes without kept pieces asked script → IsFoundIn bytes without asked script
found_in bytes without kept pieces asked script units h = on script h.is where
  candidates : AreInputCandidates bytes without h.all
  candidates = record {
    tokens = units.tokens;
    cut = units.cut;
    are = rw (units.same_tokens) at (subst (λ (ps : List Piece). AreCandidates bytes without kept [] ps h.all) units.same_pieces h.are);
  }

  on : (s : Option (Vec ℕ)) → IsFound without h.all asked s → IsFoundIn bytes without asked s
  on None few = record { all = h.all; candidates = candidates; few = few }
  on (Some text) made = record { all = h.all; candidates = candidates; script = made }
