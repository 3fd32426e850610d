-- How an audit of an input that was read ends.
use Rattle.std.proofs.Common.{◌≡◌, ◌<◌, ◌⊎◌, inl, inr, ℕ, Bool, true, false, List, [], length, Option, Some, Result, Ok, Err, sym, subst, ◌∙◌}
use Rattle.std.specs.Prelude.{OnErr}
use Rattle.std.proofs.lemmas.Bool.{true≢false}
use Rattle.std.proofs.lemmas.List.{append-nil}
use Rattle.stk_base.specs.Streams.{Appended}
use Rattle.stk_audit_rules.specs.declared.audit.Audit.{Audit}
use Rattle.stk_audit_main.specs.Parts.{IsSplit, HasLargePart, most_bundle, most_source}
use Rattle.stk_audit_main.specs.Answering.{IsAuditOf, answer_text}
use Rattle.stk_audit_main.specs.Ending.{IsInput, TookPrefixOf, TookPrefix, HasAnsweredPrefix}
use Rattle.stk_audit_main.proofs.Splitting.{one_split}

on_err : {T E : Type 0} (r : Result T E) (P : Type 0) → P → OnErr r P
on_err (Ok x) P h = tt
on_err (Err e) P h = h

-- the answer was taken, and then the flush failed
took_prefix : (bundle source : List ℕ) (before middle after : Option (List ℕ)) (answer : Audit) (text : List ℕ) → IsAuditOf bundle source answer → text ≡ answer_text answer → Appended before middle text → after ≡ middle → TookPrefixOf bundle source before after
took_prefix bundle source before middle after answer text audited is all same = record {
  answer = answer;
  audited = audited;
  written = (text, [], sym is ∙ sym (append-nil text), same ∙ all);
}

pub not_flushed : {T E : Type 0} (r : Result T E) (bundle source : List ℕ) (before middle after : Option (List ℕ)) (answer : Audit) (text : List ℕ) → IsAuditOf bundle source answer → text ≡ answer_text answer → Appended before middle text → after ≡ middle
    → OnErr r ((after ≡ before) ⊎ TookPrefixOf bundle source before after)
not_flushed r bundle source before middle after answer text audited is all same = on_err r _ (inr (took_prefix bundle source before middle after answer text audited is all same))

-- a part is too large exactly where those that were cut off are
pub none_large : {X : Type 0} (bytes bundle source : List ℕ) (b : Bool) → IsSplit bytes bundle source → ((most_bundle < length bundle) ⊎ (most_source < length source) → b ≡ true) → b ≡ false → HasLargePart bytes → X
none_large bytes bundle source b split large e h =
    let same = one_split bytes h.bundle h.source bundle source h.split split in
    absurd (true≢false (sym (large (subst (λ (x : List ℕ). (most_bundle < length x) ⊎ (most_source < length source)) same.0 (subst (λ (x : List ℕ). (most_bundle < length h.bundle) ⊎ (most_source < length x)) same.1 h.large))) ∙ e))

-- bytes that were read, as another call takes them
pub input_as : (before after : Option (List ℕ)) (bytes given : List ℕ) → given ≡ bytes → ((left : List ℕ) → before ≡ Some left → (bytes ≡ left) × (after ≡ Some [])) → IsInput before after given
input_as before after bytes given same told = subst (IsInput before after) (sym same) told

-- nothing was taken, or a prefix of an answer to what was read
pub prefix_or_nothing : (before after taken taken_after : Option (List ℕ)) (bytes given : List ℕ) → given ≡ bytes → ((left : List ℕ) → before ≡ Some left → (bytes ≡ left) × (after ≡ Some [])) → (taken_after ≡ taken) ⊎ TookPrefix given taken taken_after
    → (taken_after ≡ taken) ⊎ HasAnsweredPrefix before after taken taken_after
prefix_or_nothing before after taken taken_after bytes given same told (inl h) = inl h
prefix_or_nothing before after taken taken_after bytes given same told (inr h) = inr (record { bytes = given; input = input_as before after bytes given same told; took = h })
