-- What a sink took of a unit, from what the visitor of records did with it.
use Rattle.std.proofs.Common.{◌≡◌, ℕ, ◌<◌, ◌≤◌, inl, inr, Bool, List, [], length, Option, Result, Ok, Err, refl, sym, ap, subst, ◌∙◌, arith}
use Rattle.std.specs.Prelude.{OnOk, OnErr}
use Rattle.stk_base.specs.Causes.{Rose}
use Rattle.stk_base.specs.Streams.{Appended}
use Rattle.stk_lex.specs.declared.token.Token.{Token}
use Rattle.stk_ctype.specs.declared.symbol.NameEntry.{NameEntry}
use Rattle.stk_type_laws.specs.Orderly.{AreOrderly}
use Rattle.stk_spent_queries.specs.Marks.{AreCounted}
use Rattle.stk_spent_queries.proofs.Counting.{counted_none}
use Rattle.stk_records.specs.declared.counts.Counts.{Counts}
use Rattle.stk_records.specs.declared.line.Line.{Line}
use Rattle.stk_records.specs.declared.options.Options.{Options}
use Rattle.stk_records.specs.declared.writing.Stop.{Stop}
use Rattle.stk_records.specs.declared.writing.Stop.TheVariants as stops
use Rattle.stk_records.specs.Counts.{nothing_counted}
use Rattle.stk_records.proofs.Written.{nothing_appended, written_none}
use Rattle.stk_units.specs.Outcomes.{UnitOutcome, no_function, left_out, is_judged}
use Rattle.stk_units.specs.Visiting.{HasStoppedBefore, HasDone, HasVisitedUnit}
use Rattle.stk_unit_lines.specs.declared.recording.RecordVisitor.{RecordVisitor}
use Rattle.stk_unit_lines.specs.UnitLines.{IsUnitLines}
use Rattle.stk_unit_lines.specs.Parts.{AreOutcomeLines}
use Rattle.stk_unit_lines.specs.Wrote.{Wrote, WroteUnit, WroteUnitPrefix, HasStopped, HasWrittenRecords, LeavesRecords, JudgesRecords}
use Rattle.stk_unit_lines.proofs.Made.{made}
use Rattle.stk_unit_lines.proofs.Taking.{stopped_weaker, wrote_otherwise}
use Rattle.stk_unit_lines.proofs.Exists.{no_unit_prefix, unit_stopped}

on_ok : (r : Result (Unit {0}) Stop) (P Q : Type 0) → (P → Q) → OnOk r P → OnOk r Q
on_ok (Ok x) P Q k h = k h
on_ok (Err e) P Q k h = tt

ended_well : (r : Result (Unit {0}) Stop) (P : Type 0) → P → OnOk r P
ended_well (Ok x) P h = h
ended_well (Err e) P h = tt

no_error : {r : Result (Unit {0}) Stop} (P : Type 0) → r ≡ Ok tt → OnErr r P
no_error P e = subst (λ r. OnErr r P) (sym e) tt

an_error : {r : Result (Unit {0}) Stop} (P : Type 0) → r ≡ Err stops.NoMemory → P → OnErr r P
an_error P e h = subst (λ r. OnErr r P) (sym e) h

no_answer : {r : Result (Unit {0}) Stop} (P : Type 0) → r ≡ Err stops.NoMemory → OnOk r P
no_answer P e = subst (λ r. OnOk r P) (sym e) tt

-- what holds where it ended well, and where it didn't
pub ok_then : {x : Unit {0}} (r : Result (Unit {0}) Stop) (P : Type 0) → r ≡ Ok x → OnOk r P → P
ok_then r P e h = subst (λ r. OnOk r P) e h

pub err_then : {x : Stop} (r : Result (Unit {0}) Stop) (P : Type 0) → r ≡ Err x → OnErr r P → P
err_then r P e h = subst (λ r. OnErr r P) e h

pub fault_then : {T : Type 0} {x : Stop} {s : Result T Stop} (r : Result (Unit {0}) Stop) (P : Type 0) → r ≡ Err x → (r ≡ Err stops.WriteFault → P) → s ≡ Err x → s ≡ Err stops.WriteFault → P
fault_then {x = x} r P e h same fault =
    let inside : x ≡ stops.WriteFault = cc in
    h (e ∙ ap Err inside)

-- what ended well, or for want of memory, is no fault of writing
pub well_is_no_fault : {r : Result (Unit {0}) Stop} → r ≡ Ok tt → r ≡ Err stops.WriteFault → ⊥
well_is_no_fault well fault = cc

want_is_no_fault : {r : Result (Unit {0}) Stop} → r ≡ Err stops.NoMemory → r ≡ Err stops.WriteFault → ⊥
want_is_no_fault want fault = cc

-- what was written of a unit, under the names that it leaves
pub record HasWrittenUnit (bytes : List ℕ) (x : Options) (mark : Bool) (es : List NameEntry) (body : Option ℕ) (tokens : List Token) (now : List NameEntry) (r : Result (Unit {0}) Stop) (before after : Option (List ℕ)) (faults_before faults_after first last : ℕ) (counts : Counts) : Type 0 where
  pub written : OnOk r (WroteUnit bytes x mark es body tokens before after first last counts now)
  pub prefix : OnErr r (WroteUnitPrefix bytes x mark es body tokens before after)
  pub later : faults_before ≤ faults_after
  pub fault : r ≡ Err stops.WriteFault → Rose faults_before faults_after
  pub given_up : first ≤ last

module _ {O A : Type 0} (taken : O → Option (List ℕ)) (faults : O → ℕ) (given_up : A → ℕ) (bytes : List ℕ) (mark : Bool) (es now : List NameEntry) (body : Option ℕ) (tokens : List Token) (r : Result (Unit {0}) Stop) (v w : RecordVisitor) (o p : O) (a b : A) (none : v.counts ≡ nothing_counted) where
  -- the records of what becomes of the unit
  records_of : (x : UnitOutcome) → HasDone (LeavesRecords taken faults given_up) (JudgesRecords taken faults given_up) bytes v.options.without now tokens x r v w o p a b
      → HasWrittenRecords (AreOutcomeLines bytes v.options.without v.options.budget now tokens x) v.options r (taken o) (taken p) (faults o) (faults p) (given_up a) (given_up b) w.counts
  records_of no_function h =
      let same = h.1 in
      record {
        written = ended_well r _ (record {
          lines = [];
          are = (refl, ap (λ x. x.counts) same.visitor ∙ none);
          written = subst (Appended (taken o) (taken p)) (sym (written_none v.options)) (subst (λ x. Appended (taken o) (taken x) []) (sym same.out) (nothing_appended (taken o)));
          counted = subst (λ x. AreCounted (given_up a) (given_up x) 0) (sym same.asked) (counted_none (given_up a) (given_up a) (omega arith));
        });
        stopped = no_error _ h.0;
        later = subst (λ x. faults o ≤ faults x) (sym same.out) (omega arith);
        fault = λ e. absurd (well_is_no_fault h.0 e);
        given_up = subst (λ x. given_up a ≤ given_up x) (sym same.asked) (omega arith);
      }
  records_of (left_out cause) h = h
  records_of (is_judged n f) h = h

  -- the records of the unit
  pub unit_written : AreOrderly es → 0 < length tokens → HasVisitedUnit (LeavesRecords taken faults given_up) (JudgesRecords taken faults given_up) bytes v.options.without mark es body tokens now r v w o p a b
      → HasWrittenUnit bytes v.options mark es body tokens now r (taken o) (taken p) (faults o) (faults p) (given_up a) (given_up b) w.counts
  unit_written orderly some (inl before) =
      let same = before.untouched in
      record {
        written = no_answer _ before.answer;
        prefix = an_error _ before.answer (subst (λ x. WroteUnitPrefix bytes v.options mark es body tokens (taken o) (taken x)) (sym same.out) (no_unit_prefix bytes v.options mark es body tokens (taken o) orderly some));
        later = subst (λ x. faults o ≤ faults x) (sym same.out) (omega arith);
        fault = λ e. absurd (want_is_no_fault before.answer e);
        given_up = subst (λ x. given_up a ≤ given_up x) (sym same.asked) (omega arith);
      }
  unit_written orderly some (inr visited) =
      let written = records_of visited.outcome visited.done in
      let without = v.options.without in
      let budget = v.options.budget in
      let Are : List Line → Counts → Type 0 = AreOutcomeLines bytes without budget now tokens visited.outcome in
      let Whole : List Line → Counts → Type 0 = λ lines counts. IsUnitLines bytes without budget mark es body tokens lines counts now in
      let same : (lines : List Line) (counts : Counts) → Are lines counts → Whole lines counts = λ lines counts are. made bytes without budget mark es now body tokens visited.outcome lines counts visited.is are in
      record {
        written = on_ok r _ _ (wrote_otherwise Are Whole v.options (taken o) (taken p) same (given_up a) (given_up b) w.counts) written.written;
        prefix = unit_stopped bytes v.options mark es body tokens (taken o) (taken p) now orderly some r (stopped_weaker Are Whole v.options (taken o) (taken p) same r written.stopped);
        later = written.later;
        fault = written.fault;
        given_up = written.given_up;
      }
