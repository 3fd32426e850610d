-- Where an audit answers yes, over a source whose clauses mean what they should, each claim is true.
use Rattle.std.proofs.Common.{◌≡◌, ℕ, ◌+◌, ◌<◌, true, nat_eq, cond, List, [], ◌∷◌, ◌++◌, Option, Some, None, append_assoc, refl, sym, ap, subst, ◌∙◌, arith}
use Rattle.std.specs.List.{AllByRecursion}
use Rattle.std.proofs.lemmas.List.Sums.{sum_by-append}
use Rattle.stk_numbers.specs.declared.conditions.Kinds.{Kinds}
use Rattle.stk_numbers.specs.declared.conditions.UbKind.{UbKind}
use Rattle.stk_bundle.specs.declared.line.BundleLine.{BundleLine}
use Rattle.stk_bundle.specs.declared.line.BundleLine.TheVariants.{Head, Source, Without}
use Rattle.stk_bundle.specs.declared.stage.Stage.{Stage}
use Rattle.stk_bundle.specs.declared.stage.Stage.TheVariants as stage
use Rattle.stk_bundle.specs.Blocks.{line_count, ends_line, IsBlock}
use Rattle.stk_bundle.specs.Lines.{line_text}
use Rattle.stk_bundle.specs.Bundles.{block_lines, IsNextPart}
use Rattle.stk_audit_rules.specs.declared.audit.Claim.{Claim}
use Rattle.stk_audit_rules.specs.declared.audit.Audit.{Audit}
use Rattle.stk_audit_rules.specs.declared.audit.Audit.TheVariants.{Yes, No}
use Rattle.stk_audit_rules.specs.Worlds.{World}
use Rattle.stk_audit_rules.specs.Knowing.{Known, nothing_known, kinds_taken}
use Rattle.stk_audit_rules.specs.Reasons.{Holds, head, source, without}
use Rattle.stk_audit_rules.specs.Audits.{IsAuditFrom, all_hold, goes_on, fails, no_line, short_start, short_block, IsAudit}
use Rattle.stk_audit_rules.specs.Truths.{IsTrueClaim, OpensWith, AreTrue, HasTrueClaims, IsSound}
use Rattle.stk_audit_rules.proofs.Stages.{at_head, at_source, at_without, first_line, second_line, third_line}
use Rattle.stk_audit_rules.proofs.Claims.{Kept, kinds_stay, kept_on}

-- ---- a block of no lines is empty

count_append : (a b : List ℕ) → line_count (a ++ b) ≡ line_count a + line_count b
count_append a b = sum_by-append (λ c. cond (nat_eq c 10) 1 0) a b

some_lines : (b : ℕ) (bs : List ℕ) → ends_line (b ∷ bs) ≡ true → 0 < line_count (b ∷ bs)
some_lines b [] e =
    let one : line_count (b ∷ []) ≡ 0 + 1 = ap (λ t. 0 + cond t 1 0) e in
    omega arith
some_lines b (c ∷ cs) e =
    let all = count_append (b ∷ []) (c ∷ cs) in
    let more = some_lines c cs e in
    omega (arith, all, more)

empty_block : (block : List ℕ) → IsBlock 0 block → block ≡ []
empty_block [] h = refl
empty_block (b ∷ bs) h =
    let some = some_lines b bs h.ends in
    let none = h.count in
    absurd (omega arith)

-- a part without a block is its line
alone : (at next : Stage) (text block behind : List ℕ) (l : BundleLine) → block_lines l ≡ 0 → IsNextPart at text (record { line = l; block = block }) next behind → text ≡ line_text l ++ 10 ∷ behind
alone at next text block behind l none p =
    let empty = empty_block block (subst (λ n. IsBlock n block) none p.is.block) in
    p.whole ∙ (ap (λ b. (line_text l ++ 10 ∷ b) ++ behind) empty ∙ append_assoc (line_text l) (10 ∷ []) behind)

-- ---- behind the first three lines

module _ (w : World) where
  abbrev pub TrueFrom : Kinds → Audit → Type 0
  TrueFrom ks (Yes claims) = AllByRecursion (IsTrueClaim w ks) claims
  TrueFrom ks (No m why) = Unit {0}

  true_from : IsSound w → (at : Stage) (s : Known) (n : ℕ) (text : List ℕ) (a : Audit) → Kept w at s → IsAuditFrom w at s n text a → TrueFrom s.without a
  true_from sound at s n text a k all_hold = k.claims
  true_from sound at s n text a k (goes_on {next = next} {t = t} {block = block} {behind = behind} {line = line} p h more) =
      subst (λ ks. TrueFrom ks a) (kinds_stay w at next s t n line block p.leads h k.past)
      (true_from sound next t (n + 1 + line_count block) behind a (kept_on w sound at next s t n line block p.leads h k) more)
  true_from sound at s n text a k (fails p h) = tt
  true_from sound at s n text a k (no_line h none) = tt
  true_from sound at s n text a k (short_start b h) = tt
  true_from sound at s n text a k (short_block b h) = tt

  -- ---- from the first line on

  -- behind the line that takes kinds out
  opened : List UbKind → Known
  opened ks = record nothing_known { without = kinds_taken ks }

  kept_opened : (ks : List UbKind) → Kept w stage.Opened (opened ks)
  unfolding opened
  kept_opened ks = record {
    past = refl;
    claims = tt;
    exists = λ b e. absurd (nowhere e);
    last = λ b c f. absurd (nowhere f.here);
    members = λ b e. tt;
    begun = tt;
    cleared = tt;
  }
    where
      nowhere : {b : ℕ} → ◌≡◌ {A = Option ℕ} None (Some b) → ⊥
      nowhere e = cc

  abbrev pub TrueBehind : List ℕ → Audit → Type 0
  TrueBehind bundle a = (ks : List UbKind) → OpensWith bundle w.length ks → TrueFrom (kinds_taken ks) a → HasTrueClaims w bundle a

  true_behind : (bundle : List ℕ) (a : Audit) → TrueBehind bundle a
  true_behind bundle (Yes claims) ks o all = record { kinds = ks; opens = o; each = all }
  true_behind bundle (No m why) ks o all = tt

  holds_head : (s t : Known) (n : ℕ) (block : List ℕ) → Holds w s n Head block t → t ≡ s
  holds_head s t n block head = refl

  holds_source : (s t : Known) (n m : ℕ) (block : List ℕ) → Holds w s n (Source m) block t → (m ≡ w.length) × (t ≡ s)
  holds_source s t n m block (source h) = (h, refl)

  holds_without : (s t : Known) (n : ℕ) (ks : List UbKind) (block : List ℕ) → Holds w s n (Without ks) block t → t ≡ record s { without = kinds_taken ks }
  holds_without s t n ks block without = refl

  regrouped : (a b c d : List ℕ) → a ++ 10 ∷ (b ++ 10 ∷ (c ++ 10 ∷ d)) ≡ a ++ 10 ∷ b ++ 10 ∷ c ++ 10 ∷ d
  regrouped a b c d = simp append_assoc

  at_third : IsSound w → (bundle text : List ℕ) (n : ℕ) (a : Audit) → ((ks : List UbKind) (behind : List ℕ) → text ≡ line_text (Without ks) ++ 10 ∷ behind → OpensWith bundle w.length ks)
      → IsAuditFrom w stage.Measured nothing_known n text a → HasTrueClaims w bundle a
  unfolding opened
  at_third sound bundle text n a o (goes_on {next = next} {t = t} {block = block} {behind = behind} {line = line} p h more) =
      let third = third_line line next p.leads in
      let part = subst (λ l. IsNextPart stage.Measured text (record { line = l; block = block }) next behind) third.1 p in
      let known = holds_without nothing_known t n third.0 block (subst (λ l. Holds w nothing_known n l block t) third.1 h) in
      let goes = (at_without stage.Measured next third.0 part.leads).goes in
      let kept : Kept w next t = subst (λ x. Kept w x t) (sym goes) (subst (λ x. Kept w stage.Opened x) (sym known) (kept_opened third.0)) in
      true_behind bundle a third.0 (o third.0 behind (alone stage.Measured next text block behind (Without third.0) refl part))
      (subst (λ (x : Known). TrueFrom x.without a) known (true_from sound next t (n + 1 + line_count block) behind a kept more))
  at_third sound bundle text n a o (fails p h) = tt
  at_third sound bundle text n a o (no_line h none) = tt
  at_third sound bundle text n a o (short_block b h) = tt

  at_second : IsSound w → (bundle text : List ℕ) (n : ℕ) (a : Audit) → ((m : ℕ) (behind : List ℕ) → text ≡ line_text (Source m) ++ 10 ∷ behind → m ≡ w.length → (ks : List UbKind) (last : List ℕ) → behind ≡ line_text (Without ks) ++ 10 ∷ last → OpensWith bundle w.length ks)
      → IsAuditFrom w stage.Named nothing_known n text a → HasTrueClaims w bundle a
  at_second sound bundle text n a o (goes_on {next = next} {t = t} {block = block} {behind = behind} {line = line} p h more) =
      let second = second_line line next p.leads in
      let part = subst (λ l. IsNextPart stage.Named text (record { line = l; block = block }) next behind) second.1 p in
      let known = holds_source nothing_known t n second.0 block (subst (λ l. Holds w nothing_known n l block t) second.1 h) in
      let goes = (at_source stage.Named next second.0 part.leads).goes in
      let from : IsAuditFrom w stage.Measured nothing_known (n + 1 + line_count block) behind a =
      subst (λ x. IsAuditFrom w x nothing_known (n + 1 + line_count block) behind a) goes (subst (λ x. IsAuditFrom w next x (n + 1 + line_count block) behind a) known.1 more) in
      at_third sound bundle behind (n + 1 + line_count block) a (o second.0 behind (alone stage.Named next text block behind (Source second.0) refl part) known.0) from
  at_second sound bundle text n a o (fails p h) = tt
  at_second sound bundle text n a o (no_line h none) = tt
  at_second sound bundle text n a o (short_block b h) = tt

  at_first : IsSound w → (bundle : List ℕ) (a : Audit) → IsAuditFrom w stage.Start nothing_known 1 bundle a → HasTrueClaims w bundle a
  at_first sound bundle a (goes_on {next = next} {t = t} {block = block} {behind = behind} {line = line} p h more) =
      let same = first_line line next p.leads in
      let part = subst (λ l. IsNextPart stage.Start bundle (record { line = l; block = block }) next behind) same p in
      let known = holds_head nothing_known t 1 block (subst (λ l. Holds w nothing_known 1 l block t) same h) in
      let goes = (at_head stage.Start next part.leads).goes in
      let from : IsAuditFrom w stage.Named nothing_known (1 + 1 + line_count block) behind a =
      subst (λ x. IsAuditFrom w x nothing_known (1 + 1 + line_count block) behind a) goes (subst (λ x. IsAuditFrom w next x (1 + 1 + line_count block) behind a) known more) in
      let opens = alone stage.Start next bundle block behind Head refl part in
      at_second sound bundle behind (1 + 1 + line_count block) a (λ m rest two length ks last three. (
        last,
        opens ∙ (ap (λ t. line_text Head ++ 10 ∷ t) (two ∙ (ap (λ t. line_text (Source m) ++ 10 ∷ t) three ∙ ap (λ k. line_text (Source k) ++ 10 ∷ (line_text (Without ks) ++ 10 ∷ last)) length))
            ∙ regrouped (line_text Head) (line_text (Source w.length)) (line_text (Without ks)) last),
      )) from
  at_first sound bundle a (fails p h) = tt
  at_first sound bundle a (no_line h none) = tt
  at_first sound bundle a (short_block b h) = tt

  -- the claims of an answer
  pub claims_are_true : IsSound w → (bundle : List ℕ) (a : Audit) → IsAudit w bundle a → HasTrueClaims w bundle a
  claims_are_true sound bundle a h = at_first sound bundle a h

  -- an audit's yes
  pub yes_is_true : IsSound w → (bundle : List ℕ) (claims : List Claim) → IsAudit w bundle (Yes claims) → AreTrue w bundle claims
  yes_is_true sound bundle claims h = at_first sound bundle (Yes claims) h
