-- Steps that come in where they aren't there yet, and the way back from a set by its steps.
use Rattle.std.proofs.Common.{◌≡◌, ℕ, zero, suc, ◌≤◌, ◌<◌, ◌+◌, ◌-◌, Bool, true, false, ◌&&◌, ◌||◌, cond, nat_eq, List, [], ◌∷◌, ◌++◌, length, take, slice_get, Option, Some, None, refl, sym, ap, ◌∙◌, subst, arith, if◌then◌else◌, eqb-true}
use Rattle.std.specs.List.{list_any}
use Rattle.std.proofs.lemmas.Option.{none-some}
use Rattle.std.proofs.lemmas.Bool.{true≢false}
use Rattle.indexmap.specs.IndexSet.{insert_key}
use Rattle.stk_numbers.specs.declared.conditions.Condition.{Condition}
use Rattle.stk_meaning.specs.declared.entry.Entry.TheVariants.{Ub}
use Rattle.stk_meaning.specs.Hits.{has, same_condition}
use Rattle.stk_hits.specs.declared.condition_ids.ConditionId.{ConditionId}
use Rattle.stk_hits.specs.declared.hit_table.Hit.{Hit}
use Rattle.stk_hits.specs.declared.hit_table.Step.{Step}
use Rattle.stk_hits.specs.ConditionIds.{condition_id_of, same_condition_id}
use Rattle.stk_hits.specs.Tables.{Table, IsNumberOf, more, AreSteps, step_condition_id}
use Rattle.stk_hits.specs.Recording.{GoesOn}
use Rattle.stk_hits.proofs.Numbers.{some_one, stays, below, back}
use Rattle.stk_hits.proofs.Passing.{table_of}

and_both : (a b : Bool) → a && b ≡ true → (a ≡ true) × (b ≡ true)
and_both true b e = (refl, e)
and_both false b e = absurd cc

-- the test of the set between steps
abbrev pub same_step : Step → Step → Bool
same_step a b = nat_eq a.before b.before && (nat_eq a.node b.node && nat_eq a.kind b.kind)

step_is : (a b : Step) → same_step a b ≡ true → b ≡ a
step_is a b h =
    let one = and_both (nat_eq a.before b.before) _ h in
    let two = and_both (nat_eq a.node b.node) _ one.1 in
    let before : a.before ≡ b.before = eqb-true _ _ one.0 in
    let node : a.node ≡ b.node = eqb-true _ _ two.0 in
    let kind : a.kind ≡ b.kind = eqb-true _ _ two.1 in
    sym (λ i. record { before = before i; node = node i; kind = kind i })

get_appended : (xs : List Step) (x : Step) (j : ℕ) (s : Step) → slice_get xs j ≡ Some s → slice_get (xs ++ x ∷ []) j ≡ Some s
get_appended [] x j s h = absurd (none-some _ h)
get_appended (y ∷ ys) x zero s h = h
get_appended (y ∷ ys) x (suc j) s h = get_appended ys x j s h

keeps_steps : (b : Bool) (old : List Step) (x : Step) (j : ℕ) (s : Step) → slice_get old j ≡ Some s → slice_get (if b then old else old ++ x ∷ []) j ≡ Some s
keeps_steps true old x j s h = h
keeps_steps false old x j s h = get_appended old x j s h

-- a set with one more condition has the number behind the step's place
pub goes_on : (old new : List Step) (hits : List (Hit × ℕ)) (set place : ℕ) (k : Condition) (s : Step) → s ≡ record { before = set; node = (condition_id_of k).node; kind = (condition_id_of k).kind }
    → new ≡ insert_key same_step old s → ((found : Step) × (slice_get new place ≡ Some found) × (same_step s found ≡ true)) → GoesOn (table_of old hits) (table_of new hits) set (Ub k) (place + 1)
goes_on old new hits set place k s is keys stored =
    let at : slice_get new place ≡ Some (record { before = set; node = (condition_id_of k).node; kind = (condition_id_of k).kind }) = stored.1 ∙ ap Some (step_is s stored.0 stored.2 ∙ is) in
    let keep : (j : ℕ) (t : Step) → slice_get old j ≡ Some t → slice_get new j ≡ Some t = λ j t h. subst (λ u. slice_get u j ≡ Some t) (sym keys) (keeps_steps (list_any (same_step s) old) old s j t h) in
    let one : suc place ≡ place + 1 = omega arith in
    record {
      keeps = record { steps = keep; hits = refl };
      is = λ ms n. subst (λ u. IsNumberOf new u (ms ++ condition_id_of k ∷ [])) one (more (stays keep n) at);
      within = (let b = below new place _ at in omega arith);
    }

-- steps stay in order
pub in_order : (old new : List Step) (s : Step) → new ≡ insert_key same_step old s → AreSteps old → s.before ≤ length old → AreSteps new
in_order old new s keys are low = subst AreSteps (sym keys) (by (list_any (same_step s) old))
  where
    either : (xs : List Step) (x : Step) (j : ℕ) (t : Step) (m : ℕ) → ((k : ℕ) (u : Step) → slice_get xs k ≡ Some u → u.before ≤ k + m) → x.before ≤ length xs + m → slice_get (xs ++ x ∷ []) j ≡ Some t → t.before ≤ j + m
    either [] x zero t m all lx h = subst (λ u. u.before ≤ 0 + m) (some_one h) lx
    either [] x (suc j) t m all lx h = absurd (none-some _ h)
    either (y ∷ ys) x zero t m all lx h = all 0 t h
    either (y ∷ ys) x (suc j) t m all lx h =
        let r : t.before ≤ j + suc m = either ys x j t (suc m) (λ k u g. let l = all (suc k) u g in omega arith) (omega arith) h in
        omega arith

    by : (b : Bool) → AreSteps (if b then old else old ++ s ∷ [])
    by true = are
    by false = λ j t h. let r : t.before ≤ j + 0 = either old s j t 0 (λ k u g. let l = are k u g in omega arith) (omega arith) h in omega arith

-- ---- the way back

-- what is left of a set on the way back has one of some conditions exactly where the set has one
pub record IsLeft (steps : List Step) (test : ConditionId → Bool) (ms : List ConditionId) (at : ℕ) : Type 0 where
  pub rest : List ConditionId
  pub number : IsNumberOf steps at rest
  pub same : list_any test ms ≡ list_any test rest

or_right : (a b : Bool) → b ≡ true → a || b ≡ true
or_right true b e = refl
or_right false b e = e

or_left : (a b : Bool) → b ≡ false → a || b ≡ a
or_left true b e = refl
or_left false b e = e

-- the step before the place that was reached has one
pub met : (steps : List Step) (test : ConditionId → Bool) (ms : List ConditionId) (at : ℕ) (s : Step) → IsLeft steps test ms at → 0 < at → slice_get steps (at - 1) ≡ Some s → test (step_condition_id s) ≡ true → true ≡ list_any test ms
met steps test ms at s l positive here has_one =
    let b = back test (at - 1) s l.number (omega arith) here in
    sym (l.same ∙ (b.is ∙ or_right (list_any test b.rest) (test (step_condition_id s)) has_one))

-- or it has none, and the way goes on
pub goes_back : (steps : List Step) (test : ConditionId → Bool) (ms : List ConditionId) (at : ℕ) (s : Step) → IsLeft steps test ms at → 0 < at → slice_get steps (at - 1) ≡ Some s → test (step_condition_id s) ≡ false → IsLeft steps test ms s.before
goes_back steps test ms at s l positive here has_none =
    let b = back test (at - 1) s l.number (omega arith) here in
    record { rest = b.rest; number = b.number; same = l.same ∙ (b.is ∙ or_left (list_any test b.rest) (test (step_condition_id s)) has_none) }

pub begins : {steps : List Step} {test : ConditionId → Bool} {ms : List ConditionId} {set : ℕ} → IsNumberOf steps set ms → IsLeft steps test ms set
begins {ms = ms} n = record { rest = ms; number = n; same = refl }

-- ---- condition_ids of a set

any_last : (test : Condition → Bool) (xs : List Condition) (x : Condition) → list_any test (xs ++ x ∷ []) ≡ list_any test xs || test x
any_last test [] x = by (test x)
  where
    by : (b : Bool) → b || false ≡ b
    by true = refl
    by false = refl
any_last test (m ∷ ms) x = ap (λ b. test m || b) (any_last test ms x) ∙ by (test m) (list_any test ms) (test x)
  where
    by : (a b c : Bool) → a || (b || c) ≡ (a || b) || c
    by true b c = refl
    by false b c = refl

-- one more condition in the set, and one more condition_id
pub one_more : (now earlier : ConditionId → Bool) (before : List Condition) (x : Condition) → ((k : Condition) → earlier (condition_id_of k) ≡ has before k) → ((m : ConditionId) → now m ≡ cond (same_condition_id (condition_id_of x) m) true (earlier m)) → (k : Condition) → now (condition_id_of k) ≡ has (before ++ x ∷ []) k
one_more now earlier before x was is k =
    is (condition_id_of k) ∙ (ap (λ b. cond (same_condition_id (condition_id_of x) (condition_id_of k)) true b) (was k) ∙ (by (same_condition x k) (has before k) ∙ sym (any_last (λ j. same_condition j k) before x)))
  where
    by : (a b : Bool) → cond a true b ≡ b || a
    by true true = refl
    by true false = refl
    by false true = refl
    by false false = refl
