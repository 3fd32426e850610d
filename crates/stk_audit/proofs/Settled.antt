-- What is so at a stage of a bundle: what the lines that may stand there ask for.
use Rattle.std.proofs.Common.{◌≡◌, ℕ, Bool, true, false, List, Option, Some, None, refl, sym, ap, subst, ◌∙◌}
use Rattle.std.specs.List.{Contains, AllByRecursion}
use Rattle.stk_numbers.specs.declared.conditions.Candidate.{Candidate}
use Rattle.stk_clauses.specs.declared.store.Cnf.{Cnf}
use Rattle.stk_bundle.specs.declared.line.BundleLine.{BundleLine}
use Rattle.stk_bundle.specs.declared.line.BundleLine.TheVariants as line
use Rattle.stk_bundle.specs.declared.stage.Stage.{Stage}
use Rattle.stk_bundle.specs.declared.stage.Stage.TheVariants as stage
use Rattle.stk_bundle.specs.Grammar.{next_stage}
use Rattle.stk_audit_rules.specs.Worlds.{World}
use Rattle.stk_audit_rules.specs.Knowing.{Known, nothing_known}
use Rattle.stk_audit_rules.specs.Starts.{IsClaimOf}
use Rattle.stk_audit_rules.specs.Reasons.{Holds, head, source, without, function, left, unstable, hit, need, open_member, tried, clauses, steps, end}
use Rattle.stk_audit_rules.proofs.Stages.{at_head, at_source, at_without, to_function, to_left, to_candidate, at_hit, at_need, at_open, at_tried, at_clauses, at_steps, to_end}
use Rattle.stk_audit_rules.proofs.Claims.{none_some, false_true, all_more, named_candidate, named_condition}
use Rattle.stk_audit.specs.Stepping.{IsOpenClaim, AreWithin, IsReady}

-- whether a function is at hand at a stage
abbrev pub has_function : Stage → Bool
has_function stage.Start = false
has_function stage.Named = false
has_function stage.Measured = false
has_function stage.Opened = false
has_function at = true

-- whether a claim is being read
abbrev pub has_claim : Stage → Bool
has_claim stage.Candidate = true
has_claim stage.Set = true
has_claim stage.Clauses = true
has_claim at = false

-- whether its clauses have come
abbrev pub has_clauses : Stage → Bool
has_clauses stage.Clauses = true
has_clauses at = false

module _ (w : World) where
  pub record Settled (at : Stage) (s : Known) : Type 0 where
    pub nowhere : has_function at ≡ false → s.at ≡ None
    pub claim : has_claim at ≡ true → (b : ℕ) × (c : Candidate) × IsClaimOf s b c
    pub last : (b : ℕ) (c : Candidate) → IsClaimOf s b c → Contains (w.function s.without b).candidates c
    pub members : (b : ℕ) → s.at ≡ Some b → AllByRecursion (Contains (w.function s.without b).subject.conditions) s.members
    pub clauses : has_clauses at ≡ true → (own : Cnf) × (s.clauses ≡ Some own)

  nothing_at : {b : ℕ} → ◌≡◌ {A = Option ℕ} None (Some b) → ⊥
  nothing_at e = cc

  -- before the first line
  pub settled_first : Settled stage.Start nothing_known
  settled_first = record {
    nowhere = λ e. refl;
    claim = λ e. absurd (false_true e);
    last = λ b c h. absurd (nothing_at h.here);
    members = λ b e. tt;
    clauses = λ e. absurd (false_true e);
  }

  to_stage : (next to : Stage) (t : Known) → next ≡ to → Settled to t → Settled next t
  to_stage next to t e k = subst (λ a. Settled a t) (sym e) k

  claim_at : (at from : Stage) (s : Known) → at ≡ from → has_claim from ≡ true → Settled at s → (b : ℕ) × (c : Candidate) × IsClaimOf s b c
  claim_at at from s e h k = k.claim (ap has_claim e ∙ h)

  nowhere_at : (at from : Stage) (s : Known) → at ≡ from → has_function from ≡ false → Settled at s → s.at ≡ None
  nowhere_at at from s e h k = k.nowhere (ap has_function e ∙ h)

  -- the claim that is being read is open
  pub open_claim : (at from : Stage) (s : Known) → at ≡ from → has_claim from ≡ true → Settled at s → IsOpenClaim w s
  open_claim at from s e h k =
      let found = claim_at at from s e h k in
      record { at = found.0; c = found.1; claim = found.2; exists = k.last found.0 found.1 found.2; members = k.members found.0 found.2.here }

  -- what a line asks for that may stand at the stage is so
  pub ready_at : (at next : Stage) (s : Known) (l : BundleLine) → next_stage at l ≡ Some next → Settled at s → AreWithin s.clauses → IsReady w s l
  ready_at at next s (line.Without ks) e k within = nowhere_at at stage.Measured s (at_without at next ks e).stands refl k
  ready_at at next s line.Tried e k within = open_claim at stage.Set s (at_tried at next e).stands refl k
  ready_at at next s (line.Clauses n) e k within = open_claim at stage.Set s (at_clauses at next n e).stands refl k
  ready_at at next s (line.Steps n) e k within =
      (open_claim at stage.Clauses s (at_steps at next n e).stands refl k, k.clauses (ap has_clauses (at_steps at next n e).stands), within)
  ready_at at next s l e k within = tt

  -- a line that holds leads on to what is so
  pub settled_on : (at next : Stage) (s t : Known) (n : ℕ) (l : BundleLine) (block : List ℕ) → next_stage at l ≡ Some next → Holds w s n l block t → Settled at s → Settled next t
  settled_on at next s t n l block e head k = to_stage next stage.Named t (at_head at next e).goes (record {
    nowhere = λ h. nowhere_at at stage.Start s (at_head at next e).stands refl k;
    claim = λ h. absurd (false_true h);
    last = k.last;
    members = k.members;
    clauses = λ h. absurd (false_true h);
  })
  settled_on at next s t n l block e (source {length = m} h) k = to_stage next stage.Measured t (at_source at next m e).goes (record {
    nowhere = λ h. nowhere_at at stage.Named s (at_source at next m e).stands refl k;
    claim = λ h. absurd (false_true h);
    last = k.last;
    members = k.members;
    clauses = λ h. absurd (false_true h);
  })
  settled_on at next s t n l block e (without {kinds = ks}) k = to_stage next stage.Opened t (at_without at next ks e).goes (record {
    nowhere = λ h. nowhere_at at stage.Measured s (at_without at next ks e).stands refl k;
    claim = λ h. absurd (false_true h);
    last = λ b c h. absurd (none_some (sym (nowhere_at at stage.Measured s (at_without at next ks e).stands refl k) ∙ h.here));
    members = λ b h. absurd (none_some (sym (nowhere_at at stage.Measured s (at_without at next ks e).stands refl k) ∙ h));
    clauses = λ h. absurd (false_true h);
  })
  settled_on at next s t n l block e (function {at = b} h) k = to_stage next stage.Function t (to_function at next b e) (record {
    nowhere = λ h. absurd (false_true (sym h));
    claim = λ h. absurd (false_true h);
    last = λ a c f. absurd (none_some f.this);
    members = λ a f. tt;
    clauses = λ h. absurd (false_true h);
  })
  settled_on at next s t n l block e (left {node = node} {kind = kind} {c = c} h) k = to_stage next stage.Item t (to_left at next node kind e) (record {
    nowhere = λ h. absurd (false_true (sym h));
    claim = λ h. absurd (false_true h);
    last = λ a d f. named_candidate w s node kind a c d h f.here f.this;
    members = λ a f. tt;
    clauses = λ h. absurd (false_true h);
  })
  settled_on at next s t n l block e (unstable {node = node} {kind = kind} {c = c} h) k = to_stage next stage.Candidate t (to_candidate at next node kind e) (record {
    nowhere = λ h. absurd (false_true (sym h));
    claim = λ f. (h.at, c, record { here = h.here; this = refl });
    last = λ a d f. named_candidate w s node kind a c d h f.here f.this;
    members = λ a f. tt;
    clauses = λ h. absurd (false_true h);
  })
  settled_on at next s t n l block e (hit {start = start}) k = to_stage next stage.Set t (at_hit at next start e).goes (record {
    nowhere = λ h. absurd (false_true (sym h));
    claim = λ h. let found = claim_at at stage.Candidate s (at_hit at next start e).stands refl k in (found.0, found.1, record { here = found.2.here; this = found.2.this });
    last = λ a c f. k.last a c (record { here = f.here; this = f.this });
    members = k.members;
    clauses = λ h. absurd (false_true h);
  })
  settled_on at next s t n l block e (need {node = node} {kind = kind} {start = start} {k = m} h) k = to_stage next stage.Set t (at_need at next node kind start e).goes (record {
    nowhere = λ h. absurd (false_true (sym h));
    claim = λ f. let found = claim_at at stage.Set s (at_need at next node kind start e).stands refl k in (found.0, found.1, record { here = found.2.here; this = found.2.this });
    last = λ a c f. k.last a c (record { here = f.here; this = f.this });
    members = λ a f. all_more (Contains (w.function s.without a).subject.conditions) s.members m (k.members a f) (named_condition w s node kind a m h f);
    clauses = λ h. absurd (false_true h);
  })
  settled_on at next s t n l block e (open_member {node = node} {kind = kind} {k = m} h) k = to_stage next stage.Set t (at_open at next node kind e).goes (record {
    nowhere = λ h. absurd (false_true (sym h));
    claim = λ f. let found = claim_at at stage.Set s (at_open at next node kind e).stands refl k in (found.0, found.1, record { here = found.2.here; this = found.2.this });
    last = λ a c f. k.last a c (record { here = f.here; this = f.this });
    members = λ a f. all_more (Contains (w.function s.without a).subject.conditions) s.members m (k.members a f) (named_condition w s node kind a m h f);
    clauses = λ h. absurd (false_true h);
  })
  settled_on at next s t n l block e (tried h i j) k = to_stage next stage.Item t (at_tried at next e).goes (record {
    nowhere = λ h. absurd (false_true (sym h));
    claim = λ h. absurd (false_true h);
    last = λ a c f. k.last a c (record { here = f.here; this = f.this });
    members = k.members;
    clauses = λ h. absurd (false_true h);
  })
  settled_on at next s t n l block e (clauses {lines = lines} {own = own} h i j) k = to_stage next stage.Clauses t (at_clauses at next lines e).goes (record {
    nowhere = λ h. absurd (false_true (sym h));
    claim = λ f. let found = claim_at at stage.Set s (at_clauses at next lines e).stands refl k in (found.0, found.1, record { here = found.2.here; this = found.2.this });
    last = λ a c f. k.last a c (record { here = f.here; this = f.this });
    members = k.members;
    clauses = λ h. (own, refl);
  })
  settled_on at next s t n l block e (steps {lines = lines} h i j m o) k = to_stage next stage.Item t (at_steps at next lines e).goes (record {
    nowhere = λ h. absurd (false_true (sym h));
    claim = λ h. absurd (false_true h);
    last = λ a c f. k.last a c (record { here = f.here; this = f.this });
    members = k.members;
    clauses = λ h. absurd (false_true h);
  })
  settled_on at next s t n l block e end k = to_stage next stage.Ended t (to_end at next e) (record {
    nowhere = λ h. absurd (false_true (sym h));
    claim = λ h. absurd (false_true h);
    last = k.last;
    members = k.members;
    clauses = λ h. absurd (false_true h);
  })
