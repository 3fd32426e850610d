-- What suffices in path runs suffices in every execution, since the trees of accepted functions are typed.
use Rattle.std.proofs.Common.{◌≡◌, ℕ, ◌≤◌, inl, inr, List, [], ◌∷◌, take, Option, Result, Ok, Err, refl, sym, subst}
use Rattle.std.specs.Prelude.{IfOk, OnErr}
use Rattle.stk_tree.specs.Syntax.{FunctionTree}
use Rattle.stk_numbers.specs.declared.conditions.Candidate.{Candidate}
use Rattle.stk_numbers.specs.declared.conditions.Kinds.{Kinds}
use Rattle.stk_meaning.specs.Typings.{Typing}
use Rattle.stk_meaning.specs.Lists.{candidates}
use Rattle.stk_meaning.specs.declared.finding.Finding.{Finding}
use Rattle.stk_meaning.specs.Findings.{IsLawful, AreLawful}
use Rattle.stk_meaning.specs.PathFindings.{function_subject}
use Rattle.stk_meaning.specs.Keys.{body_of, setting_of, function_visits}
use Rattle.stk_meaning.specs.Weights.{weight, most_weight}
use Rattle.stk_run_laws.specs.Visits.{EachVisit}
use Rattle.stk_run_laws.specs.TypedTree.{IsTypedTree}
use Rattle.stk_kinded.specs.KindedStatements.{KindedFunction}
use Rattle.stk_type_laws.specs.Bits.{VisitHasBits}
use Rattle.stk_eval_expr.specs.Loops.{EachLoop}
use Rattle.stk_findings.specs.Rows.{Tables, Knows}
use Rattle.stk_units.specs.Units.{IsSettingOfFunction}
use Rattle.stk_units.specs.Known.{IsTypedFunction}
use Rattle.stk_units.proofs.Measures.{tables_of}
use Rattle.stk_run_laws.proofs.GatheredLaws.{what_suffices_in_paths_suffices}
use Rattle.stk_findings.proofs.Agreeing.{Agrees, lawful}
use Rattle.stk_function_types.specs.Nodes.{typing_in}
use Rattle.stk_function_env.specs.Settings.{FunctionPlaces, setting_in}
use Rattle.stk_records.specs.declared.counts.Counts.{Counts}
use Rattle.stk_records.specs.declared.writing.Stop.{Stop}
use Rattle.stk_spent_queries.specs.Spent.{spent_at}
use Rattle.stk_findings.specs.Searched.{searched_subject, IsTypedFunction as IsTypedByTables}
use Rattle.stk_bundles.specs.Wrote.{WroteClaims, WroteClaimsPrefix, HasStopped, WroteFunction, HasStoppedIn}

module _ (ty : Typing) (without : Kinds) (f : FunctionTree) (budget : ℕ) (typed : IsTypedTree ty without f) where
  agrees : Agrees (searched_subject ty without f budget) (function_subject ty without f (spent_at ty without f budget))
  agrees = record {
    maps = λ xs v. v;
    back = λ xs v. v;
    before = λ xs ys q p b. b;
    run = λ xs v. refl;
    conditions = refl;
    all = refl;
    spent = λ c set h. h;
  }

  -- a finding that is lawful by path runs is lawful, executions included
  whole : (c : Candidate) (x : Finding) → IsLawful (searched_subject ty without f budget) c x → IsLawful (function_subject ty without f (spent_at ty without f budget)) c x
  whole c x h =
      lawful (searched_subject ty without f budget) (function_subject ty without f (spent_at ty without f budget)) agrees c
      (λ set u never. what_suffices_in_paths_suffices ty without f typed c set (record { by = λ numbers valid hits. never numbers (record { valid = valid; hits = hits }) })) x h

  all_whole : (cs : List Candidate) (xs : List Finding) → AreLawful (searched_subject ty without f budget) cs xs → AreLawful (function_subject ty without f (spent_at ty without f budget)) cs xs
  all_whole [] [] h = tt
  all_whole [] (x ∷ xs) h = absurd h
  all_whole (c ∷ cs) [] h = absurd h
  all_whole (c ∷ cs) (x ∷ xs) h = (whole c x h.0, all_whole cs xs h.1)

-- ---- by the places of a function's own tables, and by its own setting

module _ (f : FunctionTree) (p q : FunctionPlaces) (budget at : ℕ) (cs : List Candidate) (before after : Option (List ℕ)) (tables : q ≡ p) (typed : IsTypedTree (typing_in p.types) p.without f) (listed : cs ≡ candidates (typing_in p.types) f) where
  abbrev ty : Typing
  ty = typing_in p.types

  wrote_whole : (first last : ℕ) (counts : Counts) → WroteClaims (searched_subject (typing_in q.types) q.without f budget) (typing_in q.types) q.without f budget at cs before after first last counts → WroteFunction ty p.without f budget at before after first last counts
  wrote_whole first last counts w =
      let here = subst (λ (x : FunctionPlaces). WroteClaims (searched_subject (typing_in x.types) x.without f budget) (typing_in x.types) x.without f budget at cs before after first last counts) tables w in
      let there = subst (λ (ds : List Candidate). WroteClaims (searched_subject ty p.without f budget) ty p.without f budget at ds before after first last counts) listed here in
      record {
        findings = there.findings;
        claims = there.claims;
        lawful = all_whole ty p.without f budget typed (candidates ty f) there.findings there.lawful;
        are = there.are;
        same_counts = there.same_counts;
        written = there.written;
        counted = there.counted;
      }

  stopped_whole : HasStopped (searched_subject (typing_in q.types) q.without f budget) (typing_in q.types) q.without f budget at cs before after → HasStoppedIn ty p.without f budget at before after
  stopped_whole (inl none) = inl none
  stopped_whole (inr w) =
      let here = subst (λ (x : FunctionPlaces). WroteClaimsPrefix (searched_subject (typing_in x.types) x.without f budget) (typing_in x.types) x.without f budget at cs before after) tables w in
      let there = subst (λ (ds : List Candidate). WroteClaimsPrefix (searched_subject ty p.without f budget) ty p.without f budget at ds before after) listed here in
      inr (record {
        count = there.count;
        findings = there.findings;
        claims = there.claims;
        lawful = all_whole ty p.without f budget typed (take there.count (candidates ty f)) there.findings there.lawful;
        are = there.are;
        written = there.written;
      })

  pub function_written : (r : Result Counts Stop) (first last : ℕ) → IfOk r (WroteClaims (searched_subject (typing_in q.types) q.without f budget) (typing_in q.types) q.without f budget at cs before after first last) → IfOk r (WroteFunction ty p.without f budget at before after first last)
  function_written (Ok counts) first last w = wrote_whole first last counts w
  function_written (Err e) first last w = tt

  pub function_stopped : (r : Result Counts Stop) → OnErr r (HasStopped (searched_subject (typing_in q.types) q.without f budget) (typing_in q.types) q.without f budget at cs before after) → OnErr r (HasStoppedIn ty p.without f budget at before after)
  function_stopped (Ok x) w = tt
  function_stopped (Err e) w = stopped_whole w

-- ---- what is known of a function by its own tables

pub typed_function : (f : FunctionTree) (t : Tables) (p : FunctionPlaces) → t.places ≡ p → IsSettingOfFunction f p → EachLoop (Knows (setting_in p) p.keys t.rows) (body_of f) → IsTypedFunction (typing_in p.types) p.without f → weight (typing_in p.types) p.without f ≤ most_weight → IsTypedByTables t f
typed_function f t p e h loops known light = record {
  typed = subst (λ (x : FunctionPlaces). IsTypedTree (typing_in x.types) x.without f) (sym e) known.typed;
  kinded = subst (λ (x : FunctionPlaces). KindedFunction (setting_of (typing_in x.types) x.without f) f) (sym e) known.kinded;
  bits = subst (λ (x : FunctionPlaces). EachVisit (VisitHasBits (typing_in x.types)) (function_visits (typing_in x.types) f)) (sym e) known.bits;
  tables = tables_of f t p e h loops;
  light = subst (λ (x : FunctionPlaces). weight (typing_in x.types) x.without f ≤ most_weight) (sym e) light;
}
