-- Starts that are tested one after the other.
use Rattle.std.proofs.Common.{◌≡◌, ℕ, Bool, true, false, if◌then◌else◌, List, [], ◌∷◌, ◌++◌, length, Option, Some, None, sym, ap, subst, ◌∙◌, arith}
use Rattle.std.specs.List.{Contains, AllByRecursion}
use Rattle.stk_numbers.specs.declared.conditions.Candidate.{Candidate}
use Rattle.stk_numbers.specs.declared.conditions.Condition.{Condition}
use Rattle.stk_meaning.specs.Hits.{same_condition}
use Rattle.stk_audit_rules.specs.declared.audit.Start.{Start}
use Rattle.stk_audit_rules.specs.Worlds.{World, AuditedFunction, IsAnsweredBy}
use Rattle.stk_audit_rules.specs.Knowing.{Known}
use Rattle.stk_audit_rules.specs.Starts.{other_than, others, kept_free, Shows, AllShow, no_more, one_more, FirstFailing, this, later}
use Rattle.stk_audit_rules.proofs.Claims.{same_some}
use Rattle.stk_audit.specs.Hands.{Hand, hand_at, hand_by, hand_of, function_at, IsAsked}
use Rattle.stk_audit.specs.Stepping.{IsOpenClaim, TellsStarts, TellsFirst}

-- starts of which those in front of the rest show what they should
pub record AreTested (f : AuditedFunction) (c : Candidate) (set : List Condition) (all rest : List Start) : Type 0 where
  pub shown : AllShow f c set rest → AllShow f c set all
  pub first : (m : ℕ) → FirstFailing f c set rest m → FirstFailing f c set all m

pub none_tested : (f : AuditedFunction) (c : Candidate) (set : List Condition) (all : List Start) → AreTested f c set all all
none_tested f c set all = record { shown = λ h. h; first = λ m h. h }

pub one_tested : (f : AuditedFunction) (c : Candidate) (set : List Condition) (all rest behind : List Start) (x : Start) → AreTested f c set all rest → rest ≡ x ∷ behind → Shows f c set x → AreTested f c set all behind
one_tested f c set all rest behind x t e h =
    record {
      shown = λ more. t.shown (subst (AllShow f c set) (sym e) (one_more h more));
      first = λ m more. t.first m (subst (λ xs. FirstFailing f c set xs m) (sym e) (later h more));
    }

pub one_fails : (f : AuditedFunction) (c : Candidate) (set : List Condition) (all rest behind : List Start) (x : Start) → AreTested f c set all rest → rest ≡ x ∷ behind → (Shows f c set x → ⊥) → FirstFailing f c set all x.line
one_fails f c set all rest behind x t e h = t.first x.line (subst (λ xs. FirstFailing f c set xs x.line) (sym e) (this h))

pub all_tested : (f : AuditedFunction) (c : Candidate) (set : List Condition) (all rest : List Start) → AreTested f c set all rest → length rest ≡ 0 → AllShow f c set all
all_tested f c set all [] t e = t.shown no_more
all_tested f c set all (x ∷ xs) t e = absurd (omega arith)

-- what is told of a start
pub shows_by : (f : AuditedFunction) (c : Candidate) (set free : List Condition) (x : Start) (start : List ℕ) → free ≡ kept_free x.shows set → start ≡ x.residues → IsAnsweredBy f c free start → Shows f c set x
shows_by f c set free x start e r h = subst (λ ks. IsAnsweredBy f c ks x.residues) e (subst (IsAnsweredBy f c free) r h)

pub answered_by : (f : AuditedFunction) (c : Candidate) (set free : List Condition) (x : Start) (start : List ℕ) → free ≡ kept_free x.shows set → start ≡ x.residues → Shows f c set x → IsAnsweredBy f c free start
answered_by f c set free x start e r h = subst (IsAnsweredBy f c free) (sym r) (subst (λ ks. IsAnsweredBy f c ks x.residues) (sym e) h)

-- the others of a set are conditions of the same function
all_append : {A : Type 0} (P : A → Type 0) (xs ys : List A) → AllByRecursion P xs → AllByRecursion P ys → AllByRecursion P (xs ++ ys)
all_append P [] ys h k = k
all_append P (x ∷ xs) ys h k = (h.0, all_append P xs ys h.1 k)

one_other : (P : Condition → Type 0) (j : Condition) (b : Bool) → P j → AllByRecursion P (if b then [] else j ∷ [])
one_other P j true h = tt
one_other P j false h = (h, tt)

all_others : (P : Condition → Type 0) (k : Condition) (ks : List Condition) → AllByRecursion P ks → AllByRecursion P (others k ks)
all_others P k [] h = tt
all_others P k (j ∷ js) h = all_append P (other_than k j) (others k js) (one_other P j (same_condition j k) h.0) (all_others P k js h.1)

all_kept_free : (P : Condition → Type 0) (o : Option Condition) (ks : List Condition) → AllByRecursion P ks → AllByRecursion P (kept_free o ks)
all_kept_free P None ks h = tt
all_kept_free P (Some k) ks h = all_others P k ks h

-- so they may be asked of
pub asked_free : (w : World) (hand : Option Hand) (c : Candidate) (set free : List Condition) (o : Option Condition) → IsAsked w hand c set → free ≡ kept_free o set → IsAsked w hand c free
asked_free w hand c set free o a e =
    record {
      at = a.at;
      here = a.here;
      exists = a.exists;
      members = subst (AllByRecursion (Contains (function_at w a.at).subject.conditions)) (sym e) (all_kept_free (Contains (function_at w a.at).subject.conditions) o set a.members);
    }

-- the claim that is being read may be asked of
pub asked_claim : (w : World) (s : Known) (hand : Option Hand) (c : Candidate) (members : List Condition) → hand ≡ hand_of s → IsOpenClaim w s → s.last ≡ Some c → members ≡ s.members → IsAsked w hand c members
asked_claim w s hand c members here o named same =
    record {
      at = hand_at s.without o.at;
      here = here ∙ ap (hand_by s.without) o.claim.here;
      exists = subst (λ x. Contains (w.function s.without o.at).candidates x) (same_some (sym o.claim.this ∙ named)) o.exists;
      members = subst (AllByRecursion (Contains (w.function s.without o.at).subject.conditions)) (sym same) o.members;
    }

told : (w : World) (s : Known) (hand : Option Hand) (c : Candidate) (found : Option ℕ) → hand ≡ hand_of s → IsOpenClaim w s → s.last ≡ Some c
    → ((h : Hand) → hand ≡ Some h → TellsFirst (function_at w h) c s.members s.starts found) → TellsStarts w s c found
told w s hand c None here o named tells =
    (o.at, record { claim = record { here = o.claim.here; this = named }; all = tells (hand_at s.without o.at) (here ∙ ap (hand_by s.without) o.claim.here) })
told w s hand c (Some m) here o named tells =
    record {
      at = o.at;
      c = c;
      claim = record { here = o.claim.here; this = named };
      first = tells (hand_at s.without o.at) (here ∙ ap (hand_by s.without) o.claim.here);
    }

-- what is told of its starts
pub starts_told : (w : World) (s : Known) (hand : Option Hand) (c : Candidate) (members : List Condition) (starts : List Start) (found : Option ℕ) → hand ≡ hand_of s → IsOpenClaim w s → s.last ≡ Some c → members ≡ s.members → starts ≡ s.starts
    → ((h : Hand) → hand ≡ Some h → TellsFirst (function_at w h) c members starts found) → TellsStarts w s c found
starts_told w s hand c members starts found here o named same_members same_starts tells =
    told w s hand c found here o named (λ h e. subst (λ ks. TellsFirst (function_at w h) c ks s.starts found) same_members (subst (λ xs. TellsFirst (function_at w h) c members xs found) same_starts (tells h e)))
