-- Words that ask for a script, and what is written of it.
use Rattle.std.proofs.Common.{◌≡◌, ℕ, zero, suc, ◌⊎◌, inl, inr, Bool, true, false, List, Option, Some, None, Result, Ok, Err, IfOk, refl, sym, subst, arith}
use Rattle.std.specs.Prelude.{OnErr}
use Rattle.stk_base.specs.declared.status.Status.{Status}
use Rattle.stk_base.specs.declared.status.Status.TheVariants.{Stable, Found, Unsure, BadWords, ReadFault, WriteFault, TooLarge, NoMemory, NoCandidate}
use Rattle.stk_spent_queries.proofs.Counting.{counted_none}
use Rattle.stk_records.specs.declared.options.Options.{Options}
use Rattle.stk_records.specs.declared.options.AskedScript.{AskedScript}
use Rattle.stk_records.specs.declared.writing.Stop.{Stop}
use Rattle.stk_records.specs.declared.writing.Stop.TheVariants as stops
use Rattle.stk_units.specs.Counted.{status_of}
use Rattle.stk_records.proofs.Budgets.{legal_apart}
use Rattle.stk_bundles.specs.Bundles.{TookBundle, TookBundlePrefix}
use Rattle.stk_lint.specs.LawfulText.{IsLawfulText}
use Rattle.stk_lint.specs.Candidates.{IsInputScript, HasFewCandidates}
use Rattle.stk_lint.specs.Lint.{IsWritten, AskForReading, AskForScript, IsLawfulOutput, IsLawfulFront, TookText, TookPrefix, TookNothing, status_after}
use Rattle.stk_lint.specs.Searched.{TookScript, TookScriptPrefix}

-- words that ask for a script ask for reading
pub script_reads : {words : List (List ℕ)} → AskForScript words → AskForReading words
script_reads h = record { options = h.options; are = h.are; generate = legal_apart h.asked h.are h.script }

-- records are lawful where neither a script nor a bundle is asked for
pub of_records : (bytes : List ℕ) (o : Options) (text : List ℕ) (status : Status) (marks : ℕ) → o.script ≡ None → o.bundle ≡ false → IsLawfulText bytes o text status marks → IsLawfulOutput bytes o o.script o.bundle text status marks
of_records bytes o text status marks none no_bundle h =
    subst (λ (b : Bool). IsLawfulOutput bytes o o.script b text status marks) (sym no_bundle) (subst (λ (s : Option AskedScript). IsLawfulOutput bytes o s false text status marks) (sym none) h)

pub records_front : (bytes : List ℕ) (o : Options) (text : List ℕ) (status : Status) (marks : ℕ) → o.script ≡ None → o.bundle ≡ false → IsLawfulText bytes o text status marks → IsLawfulFront bytes o o.script o.bundle text
records_front bytes o text status marks none no_bundle h =
    subst (λ (b : Bool). IsLawfulFront bytes o o.script b text) (sym no_bundle) (subst (λ (s : Option AskedScript). IsLawfulFront bytes o s false text) (sym none) (status, (marks, h)))

-- a bundle where it is
pub bundle_taken : (bytes : List ℕ) (o : Options) (before after : Option (List ℕ)) (flushed first last : ℕ) (status : Status) → o.script ≡ None → o.bundle ≡ true → TookBundle bytes o.without o.budget before after flushed first last status → TookText bytes o before after flushed first last status
bundle_taken bytes o before after flushed first last status none bundle t = record {
  text = t.text;
  marks = t.marks;
  lawful = subst (λ (b : Bool). IsLawfulOutput bytes o o.script b t.text status t.marks) (sym bundle) (subst (λ (s : Option AskedScript). IsLawfulOutput bytes o s true t.text status t.marks) (sym none) t.lawful);
  written = t.written;
  flush = t.flush;
  counted = t.counted;
}

pub bundle_stops : (bytes : List ℕ) (o : Options) (before after : Option (List ℕ)) → o.script ≡ None → o.bundle ≡ true → TookBundlePrefix bytes o.without o.budget before after → TookPrefix bytes o before after
bundle_stops bytes o before after none bundle t = record {
  text = t.text;
  front = subst (λ (b : Bool). IsLawfulFront bytes o o.script b t.text) (sym bundle) (subst (λ (s : Option AskedScript). IsLawfulFront bytes o s true t.text) (sym none) t.front);
  written = t.written;
}

pub if_bundle_taken : {E : Type 0} (bytes : List ℕ) (o : Options) (before after : Option (List ℕ)) (flushed first last : ℕ) (r : Result Status E) → o.script ≡ None → o.bundle ≡ true → IfOk r (TookBundle bytes o.without o.budget before after flushed first last) → IfOk r (TookText bytes o before after flushed first last)
if_bundle_taken bytes o before after flushed first last (Ok status) none bundle t = bundle_taken bytes o before after flushed first last status none bundle t
if_bundle_taken bytes o before after flushed first last (Err e) none bundle t = tt

pub if_bundle_stops : {E : Type 0} (bytes : List ℕ) (o : Options) (before after : Option (List ℕ)) (r : Result Status E) → o.script ≡ None → o.bundle ≡ true → OnErr r (TookBundlePrefix bytes o.without o.budget before after) → OnErr r (TookPrefix bytes o before after)
if_bundle_stops bytes o before after (Ok status) none bundle t = tt
if_bundle_stops bytes o before after (Err e) none bundle t = bundle_stops bytes o before after none bundle t

-- and the script where it is
of_script : (bytes : List ℕ) (o : Options) (asked : AskedScript) (text : List ℕ) → o.script ≡ Some asked → IsInputScript bytes o.without asked text → IsLawfulOutput bytes o o.script o.bundle text Stable 0
of_script bytes o asked text e h = subst (λ (s : Option AskedScript). IsLawfulOutput bytes o s o.bundle text Stable 0) (sym e) (h, refl, refl)

pub script_taken : (bytes : List ℕ) (o : Options) (asked : AskedScript) (before after : Option (List ℕ)) (flushed given : ℕ) (status : Status) → o.script ≡ Some asked
    → ((status ≡ Stable) ⊎ ((status ≡ NoCandidate) ⊎ ((status ≡ WriteFault) ⊎ (status ≡ NoMemory)))) → (status ≡ Stable → TookScript bytes o.without asked before after flushed) → IsWritten status → TookText bytes o before after flushed given given status
script_taken bytes o asked before after flushed given Stable e only took written =
    let t = took refl in
    record { text = t.text; marks = 0; lawful = of_script bytes o asked t.text e t.script; written = t.written; flush = t.flush; counted = counted_none given given (omega arith) }
script_taken bytes o asked before after flushed given Found e (inl same) took written = absurd cc
script_taken bytes o asked before after flushed given Found e (inr (inl same)) took written = absurd cc
script_taken bytes o asked before after flushed given Found e (inr (inr (inl same))) took written = absurd cc
script_taken bytes o asked before after flushed given Found e (inr (inr (inr same))) took written = absurd cc
script_taken bytes o asked before after flushed given Unsure e (inl same) took written = absurd cc
script_taken bytes o asked before after flushed given Unsure e (inr (inl same)) took written = absurd cc
script_taken bytes o asked before after flushed given Unsure e (inr (inr (inl same))) took written = absurd cc
script_taken bytes o asked before after flushed given Unsure e (inr (inr (inr same))) took written = absurd cc
script_taken bytes o asked before after flushed given BadWords e only took written = absurd written
script_taken bytes o asked before after flushed given ReadFault e only took written = absurd written
script_taken bytes o asked before after flushed given WriteFault e only took written = absurd written
script_taken bytes o asked before after flushed given TooLarge e only took written = absurd written
script_taken bytes o asked before after flushed given NoMemory e only took written = absurd written
script_taken bytes o asked before after flushed given NoCandidate e only took written = absurd written

pub script_stops : (bytes : List ℕ) (o : Options) (asked : AskedScript) (before after : Option (List ℕ)) → o.script ≡ Some asked → TookScriptPrefix bytes o.without asked before after → TookPrefix bytes o before after
script_stops bytes o asked before after e t = record { text = t.text; front = subst (λ (s : Option AskedScript). IsLawfulFront bytes o s o.bundle t.text) (sym e) t.script; written = t.written }

pub script_missing : (bytes : List ℕ) (o : Options) (asked : AskedScript) (before after : Option (List ℕ)) (flushed later : ℕ) → o.script ≡ Some asked → HasFewCandidates bytes o.without asked → after ≡ before → later ≡ flushed → TookNothing bytes o before after flushed later
script_missing bytes o asked before after flushed later e few taken same = record { asked = asked; script = e; few = few; taken = taken; flushed = same }

-- ---- how it ends

-- the status of counts is that of what was written
of_counts : (unstable undecided : ℕ) → IsWritten (status_of unstable undecided)
of_counts zero zero = tt
of_counts zero (suc m) = tt
of_counts (suc n) m = tt

status_written : (bytes : List ℕ) (o : Options) (s : Option AskedScript) (b : Bool) (text : List ℕ) (status : Status) (marks : ℕ) → s ≡ None → IsLawfulOutput bytes o s b text status marks → IsWritten status
status_written bytes o None false text status marks e h = subst IsWritten (sym h.same_status) (of_counts h.counts.unstable h.counts.undecided)
status_written bytes o None true text status marks e h = subst IsWritten (sym h.same_status) (of_counts h.counts.unstable h.counts.undecided)
status_written bytes o (Some asked) b text status marks e h = absurd cc

-- where no script is asked for, and the writing wasn't stopped, something was written
pub judged_written : (bytes : List ℕ) (o : Options) (before after : Option (List ℕ)) (flushed first last : ℕ) (r : Result Status Stop) → o.script ≡ None → IfOk r (TookText bytes o before after flushed first last) → IfOk r IsWritten
judged_written bytes o before after flushed first last (Ok status) none t = status_written bytes o o.script o.bundle t.text status t.marks none t.lawful
judged_written bytes o before after flushed first last (Err e) none t = tt

pub judged_ends : (r : Result Status Stop) → IfOk r IsWritten → IsWritten (status_after r) ⊎ ((status_after r ≡ NoCandidate) ⊎ ((status_after r ≡ WriteFault) ⊎ (status_after r ≡ NoMemory)))
judged_ends (Ok status) written = inl written
judged_ends (Err stops.WriteFault) written = inr (inr (inl refl))
judged_ends (Err stops.NoMemory) written = inr (inr (inr refl))

not_missing : (status : Status) → IsWritten status → status ≡ NoCandidate → ⊥
not_missing status written e = subst IsWritten e written

pub judged_is_there : (r : Result Status Stop) → IfOk r IsWritten → status_after r ≡ NoCandidate → ⊥
judged_is_there (Ok status) written e = not_missing status written e
judged_is_there (Err stops.WriteFault) written e = absurd cc
judged_is_there (Err stops.NoMemory) written e = absurd cc

not_failed : (status : Status) → IsWritten status → status ≡ WriteFault → ⊥
not_failed status written e = subst IsWritten e written

pub judged_fails : (W : Type 0) (r : Result Status Stop) → IfOk r IsWritten → (r ≡ Err stops.WriteFault → W) → status_after r ≡ WriteFault → W
judged_fails W (Ok status) written fault e = absurd (not_failed status written e)
judged_fails W (Err stops.WriteFault) written fault e = fault refl
judged_fails W (Err stops.NoMemory) written fault e = absurd cc

-- where a script is asked for
pub script_ends : (status : Status) → ((status ≡ Stable) ⊎ ((status ≡ NoCandidate) ⊎ ((status ≡ WriteFault) ⊎ (status ≡ NoMemory)))) → IsWritten status ⊎ ((status ≡ NoCandidate) ⊎ ((status ≡ WriteFault) ⊎ (status ≡ NoMemory)))
script_ends status (inl same) = inl (subst IsWritten (sym same) tt)
script_ends status (inr others) = inr others
