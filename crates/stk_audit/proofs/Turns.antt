-- An audit goes on line by line: whatever completes the rest completes the whole.
use Rattle.std.proofs.Common.{◌≡◌, ◌≢◌, ℕ, ◌+◌, ◌<◌, ◌≤◌, ◌^◌, nat_eq, cond, Bool, true, false, List, [], ◌∷◌, ◌++◌, length, length-append, Result, Ok, Err, refl, sym, ap, subst, ◌∙◌, arith}
use Rattle.std.specs.Prelude.{IfOk}
use Rattle.stk_base.specs.declared.failures.NoMemory.{NoMemory}
use Rattle.std.proofs.lemmas.List.Sums.{sum_by-append}
use Rattle.stk_bundle.specs.declared.line.BundleLine.{BundleLine}
use Rattle.stk_bundle.specs.declared.stage.Stage.{Stage}
use Rattle.stk_bundle.specs.declared.stage.Stage.TheVariants as stage
use Rattle.stk_bundle.specs.Blocks.{line_count}
use Rattle.stk_bundle.specs.Lines.{line_text}
use Rattle.stk_bundle.specs.Grammar.{next_stage, is_ended}
use Rattle.stk_bundle.specs.Bundles.{part_text, IsNextPart, NoLineStands}
use Rattle.stk_audit_rules.specs.declared.audit.Why.{Why}
use Rattle.stk_audit_rules.specs.declared.audit.Why.TheVariants as why
use Rattle.stk_audit_rules.specs.declared.audit.Audit.{Audit}
use Rattle.stk_audit_rules.specs.declared.audit.Audit.TheVariants.{Yes, No}
use Rattle.stk_audit_rules.specs.declared.audit.Claim.{Claim}
use Rattle.stk_audit_rules.specs.Worlds.{World}
use Rattle.stk_audit_rules.specs.Knowing.{Known, nothing_known}
use Rattle.stk_audit_rules.specs.Audits.{IsAuditFrom, all_hold, goes_on, fails, no_line, IsAudit}
use Rattle.stk_audit_rules.specs.Truths.{HasTrueClaims, IsSound}
use Rattle.stk_audit_rules.proofs.Claims.{false_true}
use Rattle.stk_audit_rules.proofs.Truth.{claims_are_true}
use Rattle.stk_audit.specs.declared.progress.Progress.{Progress}
use Rattle.stk_audit.specs.declared.progress.Step.{Step}
use Rattle.stk_audit.specs.declared.progress.Step.TheVariants as step
use Rattle.stk_audit.specs.Progressing.{known_in}
use Rattle.stk_audit.specs.Stepping.{Stepped, AreWithin, IsReady, IsOpenClaim, IsEnd, IsEndFrom}
use Rattle.stk_audit.proofs.Settled.{Settled, settled_first, settled_on, ready_at, open_claim}

count_append : (a b : List ℕ) → line_count (a ++ b) ≡ line_count a + line_count b
count_append a b = sum_by-append (λ c. cond (nat_eq c 10) 1 0) a b

byte_counts : (b : Bool) → cond b 1 0 ≤ 1
byte_counts true = omega arith
byte_counts false = omega arith

-- a text has no more lines than bytes
few_lines : (text : List ℕ) → line_count text ≤ length text
few_lines [] = omega arith
few_lines (b ∷ bs) =
    let all = count_append (b ∷ []) bs in
    let one : line_count (b ∷ []) ≡ 0 + cond (nat_eq b 10) 1 0 = refl in
    let most = byte_counts (nat_eq b 10) in
    let more = few_lines bs in
    omega (arith, all, one, most, more)

-- the lines of a part and of what comes behind it
lines_behind : (at next : Stage) (rest block behind : List ℕ) (l : BundleLine) → IsNextPart at rest (record { line = l; block = block }) next behind → 1 + line_count block + line_count behind ≤ line_count rest
lines_behind at next rest block behind l p =
    let whole = ap line_count p.whole ∙ count_append (part_text (record { line = l; block = block })) behind in
    let part = count_append (line_text l) (10 ∷ block) in
    let first = count_append (10 ∷ []) block in
    let newline : line_count (10 ∷ []) ≡ 1 = refl in
    omega (arith, whole, part, first, newline)

-- behind some lines that hold
pub record Audited (w : World) (bundle : List ℕ) (at : Stage) (p : Progress) (rest : List ℕ) : Type 0 where
  pub answers : (a : Audit) → IsAuditFrom w at (known_in p) p.number rest a → IsAudit w bundle a
  pub settled : Settled w at (known_in p)
  pub within : AreWithin p.clauses
  pub lines : p.number + line_count rest ≤ 1 + line_count bundle

module _ (w : World) (bundle : List ℕ) where
  -- before the first line
  pub first_audited : (p : Progress) → known_in p ≡ nothing_known → p.number ≡ 1 → Audited w bundle stage.Start p bundle
  first_audited p e n =
      record {
        answers = λ a h. subst (λ s. IsAuditFrom w stage.Start s 1 bundle a) e (subst (λ m. IsAuditFrom w stage.Start (known_in p) m bundle a) n h);
        settled = subst (Settled w stage.Start) (sym e) (settled_first w);
        within = subst AreWithin (sym (ap (λ (s : Known). s.clauses) e)) tt;
        lines = omega arith;
      }

  module _ (at : Stage) (p : Progress) (rest : List ℕ) (k : Audited w bundle at p rest) where
    -- a line that holds leads on
    pub after_line : (next : Stage) (q r : Progress) (behind block : List ℕ) (l : BundleLine) → IsNextPart at rest (record { line = l; block = block }) next behind → Stepped w p l block step.Holds q → AreWithin q.clauses
        → known_in r ≡ known_in q → r.number ≡ q.number + 1 + line_count block → Audited w bundle next r behind
    after_line next q r behind block l part h within same n =
        let number : r.number ≡ p.number + 1 + line_count block = n ∙ ap (λ m. m + 1 + line_count block) h.1 in
        let few = lines_behind at next rest block behind l part in
        let before = k.lines in
        record {
          answers = λ a more. k.answers a (goes_on part h.0 (subst (λ s. IsAuditFrom w next s (p.number + 1 + line_count block) behind a) same (subst (λ m. IsAuditFrom w next (known_in r) m behind a) number more)));
          settled = subst (Settled w next) (sym same) (settled_on w at next (known_in p) (known_in q) p.number l block part.leads h.0 k.settled);
          within = subst AreWithin (sym (ap (λ (s : Known). s.clauses) same)) within;
          lines = omega (arith, number, few, before);
        }

    -- numbers of lines are small
    pub small : (next : Stage) (q : Progress) (behind block : List ℕ) (l : BundleLine) → IsNextPart at rest (record { line = l; block = block }) next behind → Stepped w p l block step.Holds q → length bundle ≤ 1073741824
        → q.number + 1 + line_count block < 2 ^ 32
    small next q behind block l part h short =
        let few = lines_behind at next rest block behind l part in
        let all = few_lines bundle in
        let before = k.lines in
        let same = h.1 in
        omega (arith, few, all, before, same, short)

    pub small_rest : length bundle ≤ 1073741824 → p.number + line_count rest < 2 ^ 32
    small_rest short =
        let all = few_lines bundle in
        let before = k.lines in
        omega (arith, all, before, short)

    -- what the next line asks for is so
    pub ready : (next : Stage) (behind block : List ℕ) (l : BundleLine) → IsNextPart at rest (record { line = l; block = block }) next behind → IsReady w (known_in p) l
    ready next behind block l part = ready_at w at next (known_in p) l part.leads k.settled k.within

    -- the claim is open where its clauses are short
    pub open_there : at ≡ stage.Set → IsOpenClaim w (known_in p)
    open_there e = open_claim w at stage.Set (known_in p) e refl k.settled

    -- ---- answers

    pub line_fails : (next : Stage) (q : Progress) (behind block : List ℕ) (l : BundleLine) (m : ℕ) (reason : Why) → IsNextPart at rest (record { line = l; block = block }) next behind → Stepped w p l block (step.Fails m reason) q
        → IsAudit w bundle (No m reason)
    line_fails next q behind block l m reason part h = k.answers (No m reason) (fails part h)

    pub no_line_comes : at ≢ stage.Ended → NoLineStands at rest → IsAudit w bundle (No p.number why.Form)
    no_line_comes early none = k.answers (No p.number why.Form) (no_line (λ e. absurd (early e)) none)

    pub nothing_left : (claims : List Claim) → at ≡ stage.Ended → length rest ≡ 0 → claims ≡ p.claims.items → IsAudit w bundle (Yes claims)
    nothing_left claims e none same = subst (λ cs. IsAudit w bundle (Yes cs)) (sym same) (k.answers (Yes p.claims.items) (ended at rest e none))
      where
        ended : (at : Stage) (rest : List ℕ) → at ≡ stage.Ended → length rest ≡ 0 → IsAuditFrom w at (known_in p) p.number rest (Yes p.claims.items)
        ended at [] e none = subst (λ a. IsAuditFrom w a (known_in p) p.number [] (Yes p.claims.items)) (sym e) all_hold
        ended at (b ∷ bs) e none = absurd (omega arith)

    pub something_left : at ≡ stage.Ended → 0 < length rest → IsAudit w bundle (No p.number why.Form)
    something_left e some = k.answers (No p.number why.Form) (no_line (λ h. apart rest some) (λ l behind h. h.stands (ap (λ a. next_stage a l) e)))
      where
        apart : (text : List ℕ) → 0 < length text → text ≢ []
        apart text some e = let long = ap length e in absurd (omega arith)

    -- an answer from here is one of the whole
    pub ended_there : (r : Result Step NoMemory) → IfOk r (IsEndFrom w at p rest) → IfOk r (IsEnd w bundle p)
    ended_there (Ok step.Holds) h = absurd h
    ended_there (Ok (step.Fails m reason)) h = k.answers (No m reason) h
    ended_there (Err e) h = tt

pub ended_is : (at : Stage) → is_ended at ≡ true → at ≡ stage.Ended
ended_is stage.Ended e = refl
ended_is at e = absurd (false_true e)

-- what comes behind a part is shorter
pub shorter : (at next : Stage) (rest block behind : List ℕ) (l : BundleLine) → IsNextPart at rest (record { line = l; block = block }) next behind → length behind < length rest
shorter at next rest block behind l p =
    let all = ap length p.whole ∙ length-append (part_text (record { line = l; block = block })) behind in
    let part = length-append (line_text l) (10 ∷ block) in
    omega (arith, all, part)

-- the claims of an answer
pub with_claims : (w : World) (bundle : List ℕ) (a : Audit) → IsAudit w bundle a → IsSound w → HasTrueClaims w bundle a
with_claims w bundle a h sound = claims_are_true w sound bundle a h
