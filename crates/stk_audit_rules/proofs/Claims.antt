-- What is so between two lines that hold: the claims so far are true, and what is named exists.
use Rattle.std.proofs.Common.{◌≡◌, ℕ, Bool, true, false, List, [], ◌∷◌, ◌++◌, Option, Some, None, refl, sym, ap, subst, ◌∙◌, ℤ}
use Rattle.std.specs.List.{Contains, AllByRecursion}
use Rattle.stk_numbers.specs.declared.conditions.Candidate.{Candidate}
use Rattle.stk_numbers.specs.declared.conditions.Condition.{Condition}
use Rattle.stk_meaning.specs.Findings.{Answers, NoAnswer}
use Rattle.stk_clauses.specs.declared.store.Cnf.{Cnf}
use Rattle.stk_clauses.specs.Derivations.{IsRefutation}
use Rattle.stk_clauses.proofs.Steps.{refutation_sound}
use Rattle.stk_bundle.specs.declared.line.BundleLine.{BundleLine}
use Rattle.stk_bundle.specs.declared.stage.Stage.{Stage}
use Rattle.stk_bundle.specs.declared.stage.Stage.TheVariants as stage
use Rattle.stk_bundle.specs.Grammar.{next_stage}
use Rattle.stk_audit_rules.specs.declared.audit.Start.{Start}
use Rattle.stk_audit_rules.specs.Worlds.{World, AuditedFunction, IsAnsweredBy}
use Rattle.stk_audit_rules.specs.Knowing.{Known, claim_of}
use Rattle.stk_audit_rules.specs.Naming.{NamesCandidate, NamesCondition}
use Rattle.stk_audit_rules.specs.Starts.{kept_free, IsClaimOf, Shows, AllShow, one_more, IsShown}
use Rattle.stk_audit_rules.specs.Reasons.{Holds, head, source, without, function, left, unstable, hit, need, open_member, tried, clauses, steps, end}
use Rattle.stk_audit_rules.specs.Truths.{IsTrueClaim, IsSound}
use Rattle.stk_audit_rules.proofs.Sets.{none_with_more}
use Rattle.stk_audit_rules.proofs.Stages.{at_head, at_source, at_without, to_function, to_left, to_candidate, at_hit, at_need, at_open, at_tried, at_clauses, at_steps, to_end}

pub same_some : {A : Type 0} {a b : A} → ◌≡◌ {A = Option A} (Some a) (Some b) → a ≡ b
same_some e = cc

pub none_some : {A : Type 0} {a : A} → ◌≡◌ {A = Option A} None (Some a) → ⊥
none_some e = cc

pub false_true : ◌≡◌ {A = Bool} false true → ⊥
false_true e = cc

pub all_more : {A : Type 0} (P : A → Type 0) (xs : List A) (x : A) → AllByRecursion P xs → P x → AllByRecursion P (xs ++ x ∷ [])
all_more P [] x h k = (k, tt)
all_more P (y ∷ ys) x h k = (h.0, all_more P ys x h.1 k)

-- the first of a claim's starts shows that the candidate is hit
pub record Begins (xs : List Start) : Type 0 where
  pub first : Start
  pub behind : List Start
  pub is : xs ≡ first ∷ behind
  pub hit : first.shows ≡ None

abbrev pub Begun : Stage → List Start → Type 0
Begun stage.Candidate xs = xs ≡ []
Begun stage.Set xs = Begins xs
Begun stage.Clauses xs = Begins xs
Begun at xs = Unit {0}

-- the first three lines have come
abbrev pub is_past : Stage → Bool
is_past stage.Start = false
is_past stage.Named = false
is_past stage.Measured = false
is_past at = true

one_more_begins : (xs : List Start) (y : Start) → Begins xs → Begins (xs ++ y ∷ [])
one_more_begins xs y b = record { first = b.first; behind = b.behind ++ y ∷ []; is = ap (λ ys. ys ++ y ∷ []) b.is; hit = b.hit }

first_begins : (xs : List Start) (y : Start) → xs ≡ [] → y.shows ≡ None → Begins (xs ++ y ∷ [])
first_begins xs y e h = record { first = y; behind = []; is = ap (λ ys. ys ++ y ∷ []) e; hit = h }

first_shows : (f : AuditedFunction) (c : Candidate) (set : List Condition) (x : Start) (xs : List Start) → AllShow f c set (x ∷ xs) → Shows f c set x
first_shows f c set x xs (one_more h more) = h

hit_by : (f : AuditedFunction) (c : Candidate) (set : List Condition) (xs : List Start) → Begins xs → AllShow f c set xs → (start : List ℤ) × Answers f.subject c [] start
hit_by f c set xs b all =
    let h = first_shows f c set b.first b.behind (subst (λ ys. AllShow f c set ys) b.is all) in
    let shown = subst (λ o. IsAnsweredBy f c (kept_free o set) b.first.residues) b.hit h in
    (shown.map, shown.answers)

module _ (w : World) where
  -- the conditions of the function that begins at a byte
  abbrev pub conditions_at : Known → ℕ → List Condition
  conditions_at s at = (w.function s.without at).subject.conditions

  -- the clauses that have come stand for the query of the claim, whose starts show what they should
  pub record Cleared (s : Known) : Type 0 where
    pub at : ℕ
    pub c : Candidate
    pub own : Cnf
    pub shown : IsShown w s at c
    pub stands : (w.function s.without at).Stands c s.members own
    pub is : s.clauses ≡ Some own

  abbrev pub IsCleared : Stage → Known → Type 0
  IsCleared stage.Clauses s = Cleared s
  IsCleared at s = Unit {0}

  -- what is so behind the first three lines
  pub record Kept (at : Stage) (s : Known) : Type 0 where
    pub past : is_past at ≡ true
    pub claims : AllByRecursion (IsTrueClaim w s.without) s.claims
    pub exists : (b : ℕ) → s.at ≡ Some b → w.is_function s.without b ≡ true
    pub last : (b : ℕ) (c : Candidate) → IsClaimOf s b c → Contains (w.function s.without b).candidates c
    pub members : (b : ℕ) → s.at ≡ Some b → AllByRecursion (Contains (conditions_at s b)) s.members
    pub begun : Begun at s.starts
    pub cleared : IsCleared at s

  true_claim : IsSound w → (at : Stage) (s : Known) (b : ℕ) (c : Candidate) → Kept at s → IsShown w s b c → Begins s.starts → NoAnswer (w.function s.without b).subject c s.members → IsTrueClaim w s.without (claim_of s b c)
  true_claim sound at s b c k shown begins none =
      let found = hit_by (w.function s.without b) c s.members s.starts begins shown.all in
      let all = k.members b shown.claim.here in
      record {
        function = k.exists b shown.claim.here;
        candidate = k.last b c shown.claim;
        unstable = record { start = found.0; hit = found.1; none_free = none_with_more (w.function s.without b).subject c s.members (conditions_at s b) all none };
        members = all;
        path_sufficient = none;
        sufficient = sound.gathered s.without b c s.members (k.exists b shown.claim.here) (k.last b c shown.claim) none;
        starts = shown.all;
      }

  pub named_candidate : (s : Known) (node kind b : ℕ) (c d : Candidate) → NamesCandidate w s node kind c → s.at ≡ Some b → ◌≡◌ {A = Option Candidate} (Some c) (Some d) → Contains (w.function s.without b).candidates d
  named_candidate s node kind b c d h here this =
      subst (λ x. Contains (w.function s.without b).candidates x) (same_some this)
      (subst (λ x. Contains (w.function s.without x).candidates c) (same_some (sym h.here ∙ here)) h.exists)

  pub named_condition : (s : Known) (node kind b : ℕ) (k : Condition) → NamesCondition w s node kind k → s.at ≡ Some b → Contains (conditions_at s b) k
  named_condition s node kind b k h here = subst (λ x. Contains (conditions_at s x) k) (same_some (sym h.here ∙ here)) h.exists

  not_past : (at from : Stage) → at ≡ from → is_past from ≡ false → is_past at ≡ true → ⊥
  not_past at from e early p = false_true (sym early ∙ (ap is_past (sym e) ∙ p))

  -- the kinds that are taken out stay
  pub kinds_stay : (at next : Stage) (s t : Known) (n : ℕ) (line : BundleLine) (block : List ℕ) → next_stage at line ≡ Some next → Holds w s n line block t → is_past at ≡ true → t.without ≡ s.without
  kinds_stay at next s t n line block e head p = refl
  kinds_stay at next s t n line block e (source h) p = refl
  kinds_stay at next s t n line block e (without {kinds = ks}) p = absurd (not_past at stage.Measured (at_without at next ks e).stands refl p)
  kinds_stay at next s t n line block e (function h) p = refl
  kinds_stay at next s t n line block e (left h) p = refl
  kinds_stay at next s t n line block e (unstable h) p = refl
  kinds_stay at next s t n line block e hit p = refl
  kinds_stay at next s t n line block e (need h) p = refl
  kinds_stay at next s t n line block e (open_member h) p = refl
  kinds_stay at next s t n line block e (tried h i j) p = refl
  kinds_stay at next s t n line block e (clauses h i j) p = refl
  kinds_stay at next s t n line block e (steps h i j k l) p = refl
  kinds_stay at next s t n line block e end p = refl

  begins_at : (at : Stage) (s : Known) → at ≡ stage.Set → Kept at s → Begins s.starts
  begins_at at s e k = subst (λ a. Begun a s.starts) e k.begun

  to_stage : (next to : Stage) (t : Known) → next ≡ to → Kept to t → Kept next t
  to_stage next to t e k = subst (λ a. Kept a t) (sym e) k

  -- a line that holds keeps it so
  pub kept_on : IsSound w → (at next : Stage) (s t : Known) (n : ℕ) (line : BundleLine) (block : List ℕ) → next_stage at line ≡ Some next → Holds w s n line block t → Kept at s → Kept next t
  kept_on sound at next s t n line block e head k = absurd (not_past at stage.Start (at_head at next e).stands refl k.past)
  kept_on sound at next s t n line block e (source {length = l} h) k = absurd (not_past at stage.Named (at_source at next l e).stands refl k.past)
  kept_on sound at next s t n line block e (without {kinds = ks}) k = absurd (not_past at stage.Measured (at_without at next ks e).stands refl k.past)
  kept_on sound at next s t n line block e (function {at = b} h) k = to_stage next stage.Function t (to_function at next b e) (record {
    past = refl;
    claims = k.claims;
    exists = λ a f. subst (λ x. w.is_function s.without x ≡ true) (same_some f) h.exists;
    last = λ a c f. absurd (none_some f.this);
    members = λ a f. tt;
    begun = tt;
    cleared = tt;
  })
  kept_on sound at next s t n line block e (left {node = node} {kind = kind} {c = c} h) k = to_stage next stage.Item t (to_left at next node kind e) (record {
    past = refl;
    claims = k.claims;
    exists = k.exists;
    last = λ a d f. named_candidate s node kind a c d h f.here f.this;
    members = λ a f. tt;
    begun = tt;
    cleared = tt;
  })
  kept_on sound at next s t n line block e (unstable {node = node} {kind = kind} {c = c} h) k = to_stage next stage.Candidate t (to_candidate at next node kind e) (record {
    past = refl;
    claims = k.claims;
    exists = k.exists;
    last = λ a d f. named_candidate s node kind a c d h f.here f.this;
    members = λ a f. tt;
    begun = refl;
    cleared = tt;
  })
  kept_on sound at next s t n line block e (hit {start = start}) k = to_stage next stage.Set t (at_hit at next start e).goes (record {
    past = refl;
    claims = k.claims;
    exists = k.exists;
    last = λ a c f. k.last a c (record { here = f.here; this = f.this });
    members = k.members;
    begun = first_begins s.starts (record { line = n; residues = start; shows = None }) (subst (λ a. Begun a s.starts) (at_hit at next start e).stands k.begun) refl;
    cleared = tt;
  })
  kept_on sound at next s t n line block e (need {node = node} {kind = kind} {start = start} {k = m} h) k = to_stage next stage.Set t (at_need at next node kind start e).goes (record {
    past = refl;
    claims = k.claims;
    exists = k.exists;
    last = λ a c f. k.last a c (record { here = f.here; this = f.this });
    members = λ a f. all_more (Contains (conditions_at s a)) s.members m (k.members a f) (named_condition s node kind a m h f);
    begun = one_more_begins s.starts (record { line = n; residues = start; shows = Some m }) (begins_at at s (at_need at next node kind start e).stands k);
    cleared = tt;
  })
  kept_on sound at next s t n line block e (open_member {node = node} {kind = kind} {k = m} h) k = to_stage next stage.Set t (at_open at next node kind e).goes (record {
    past = refl;
    claims = k.claims;
    exists = k.exists;
    last = λ a c f. k.last a c (record { here = f.here; this = f.this });
    members = λ a f. all_more (Contains (conditions_at s a)) s.members m (k.members a f) (named_condition s node kind a m h f);
    begun = begins_at at s (at_open at next node kind e).stands k;
    cleared = tt;
  })
  kept_on sound at next s t n line block e (tried {at = b} {c = c} shown all none) k = to_stage next stage.Item t (at_tried at next e).goes (record {
    past = refl;
    claims = all_more (IsTrueClaim w s.without) s.claims (claim_of s b c) k.claims (true_claim sound at s b c k shown (begins_at at s (at_tried at next e).stands k) none);
    exists = k.exists;
    last = λ a d f. k.last a d (record { here = f.here; this = f.this });
    members = k.members;
    begun = tt;
    cleared = tt;
  })
  kept_on sound at next s t n line block e (clauses {lines = lines} {at = b} {c = c} {own = own} shown stands read) k = to_stage next stage.Clauses t (at_clauses at next lines e).goes (record {
    past = refl;
    claims = k.claims;
    exists = k.exists;
    last = λ a d f. k.last a d (record { here = f.here; this = f.this });
    members = k.members;
    begun = begins_at at s (at_clauses at next lines e).stands k;
    cleared = record { at = b; c = c; own = own; shown = record { claim = record { here = shown.claim.here; this = shown.claim.this }; all = shown.all }; stands = stands; is = refl };
  })
  kept_on sound at next s t n line block e (steps {lines = lines} {at = b} {c = c} {own = own} {d = d} here this kept read refutes) k = to_stage next stage.Item t (at_steps at next lines e).goes (record {
    past = refl;
    claims = all_more (IsTrueClaim w s.without) s.claims (claim_of s b c) k.claims (refuted (subst (λ a. IsCleared a s) (at_steps at next lines e).stands k.cleared) (subst (λ a. Begun a s.starts) (at_steps at next lines e).stands k.begun));
    exists = k.exists;
    last = λ a f g. k.last a f (record { here = g.here; this = g.this });
    members = k.members;
    begun = tt;
    cleared = tt;
  })
    where
      refuted : Cleared s → Begins s.starts → IsTrueClaim w s.without (claim_of s b c)
      refuted cleared begins =
          let same_at : cleared.at ≡ b = same_some (sym cleared.shown.claim.here ∙ here) in
          let same_c : cleared.c ≡ c = same_some (sym cleared.shown.claim.this ∙ this) in
          let same_own : own ≡ cleared.own = same_some (sym kept ∙ cleared.is) in
          let refuted_own : IsRefutation cleared.own.vars cleared.own.store d.steps = subst (λ (o : Cnf). IsRefutation o.vars o.store d.steps) same_own refutes in
          let none = sound.never s.without cleared.at cleared.c s.members cleared.own (k.exists cleared.at cleared.shown.claim.here) cleared.stands (refutation_sound cleared.own.vars cleared.own.store d.steps refuted_own) in
          subst (λ x. IsTrueClaim w s.without (claim_of s b x)) same_c
          (subst (λ x. IsTrueClaim w s.without (claim_of s x cleared.c)) same_at (true_claim sound at s cleared.at cleared.c k cleared.shown begins none))
  kept_on sound at next s t n line block e end k = to_stage next stage.Ended t (to_end at next e) (record {
    past = refl;
    claims = k.claims;
    exists = k.exists;
    last = k.last;
    members = k.members;
    begun = tt;
    cleared = tt;
  })
