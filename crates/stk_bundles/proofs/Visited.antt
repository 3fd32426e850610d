-- What a sink took of a unit, from what the visitor of claims did with it.
use Rattle.std.proofs.Common.{◌≡◌, ℕ, ◌+◌, ◌≤◌, inl, inr, Bool, List, [], ◌∷◌, Option, Result, Ok, Err, refl, sym, ap, subst, ◌∙◌, arith}
use Rattle.std.proofs.lemmas.List.{append-nil}
use Rattle.std.specs.Prelude.{OnOk, OnErr}
use Rattle.stk_base.specs.Causes.{Rose}
use Rattle.stk_base.specs.Streams.{Appended, AppendedPrefix}
use Rattle.stk_lex.specs.declared.token.Token.{Token}
use Rattle.stk_ctype.specs.declared.symbol.NameEntry.{NameEntry}
use Rattle.stk_tree.specs.declared.node.Node.{Node}
use Rattle.stk_tree.specs.Syntax.{FunctionTree, defines}
use Rattle.stk_numbers.specs.declared.conditions.Kinds.{Kinds}
use Rattle.stk_spent_queries.specs.Marks.{all_marks, AreCounted}
use Rattle.stk_spent_queries.proofs.Counting.{counted_none}
use Rattle.stk_bundle.specs.Bundles.{LineBlock, parts_text}
use Rattle.stk_claims.specs.Parts.{function_parts, left_count}
use Rattle.stk_records.specs.declared.counts.Counts.{Counts}
use Rattle.stk_records.specs.Counts.{nothing_counted}
use Rattle.stk_records.specs.declared.writing.Stop.{Stop}
use Rattle.stk_records.specs.declared.writing.Stop.TheVariants as stops
use Rattle.stk_records.proofs.Written.{nothing_appended}
use Rattle.stk_units.specs.Functions.{unit_typing}
use Rattle.stk_units.specs.Outcomes.{UnitOutcome, no_function, left_out, is_judged, IsOutcome}
use Rattle.stk_units.specs.Visiting.{HasDone, HasVisitedUnit}
use Rattle.stk_bundles.specs.declared.units.ClaimVisitor.{ClaimVisitor}
use Rattle.stk_bundles.specs.Wrote.{WroteFunction, HasStoppedIn}
use Rattle.stk_bundles.specs.Units.{FunctionPart, said_text, said_marks, beginning_of, LeavesNothing, JudgesClaims, IsOutcomePart, WroteUnit, HasStoppedInUnit}

on_ok : (r : Result (Unit {0}) Stop) (P Q : Type 0) → (P → Q) → OnOk r P → OnOk r Q
on_ok (Ok x) P Q k h = k h
on_ok (Err e) P Q k h = tt

on_error : (r : Result (Unit {0}) Stop) (P Q : Type 0) → (P → Q) → OnErr r P → OnErr r Q
on_error (Ok x) P Q k h = tt
on_error (Err e) P Q k h = k h

ended_well : (r : Result (Unit {0}) Stop) (P : Type 0) → P → OnOk r P
ended_well (Ok x) P h = h
ended_well (Err e) P h = tt

no_error : {r : Result (Unit {0}) Stop} (P : Type 0) → r ≡ Ok tt → OnErr r P
no_error P e = subst (λ r. OnErr r P) (sym e) tt

an_error : {r : Result (Unit {0}) Stop} (P : Type 0) → r ≡ Err stops.NoMemory → P → OnErr r P
an_error P e h = subst (λ r. OnErr r P) (sym e) h

no_answer : {r : Result (Unit {0}) Stop} (P : Type 0) → r ≡ Err stops.NoMemory → OnOk r P
no_answer P e = subst (λ r. OnOk r P) (sym e) tt

-- what holds where it ended well, and where it didn't
pub ok_then : {x : Unit {0}} (r : Result (Unit {0}) Stop) (P : Type 0) → r ≡ Ok x → OnOk r P → P
ok_then r P e h = subst (λ r. OnOk r P) e h

pub err_then : {x : Stop} (r : Result (Unit {0}) Stop) (P : Type 0) → r ≡ Err x → OnErr r P → P
err_then r P e h = subst (λ r. OnErr r P) e h

pub fault_then : {T : Type 0} {x : Stop} {s : Result T Stop} (r : Result (Unit {0}) Stop) (P : Type 0) → r ≡ Err x → (r ≡ Err stops.WriteFault → P) → s ≡ Err x → s ≡ Err stops.WriteFault → P
fault_then {x = x} r P e h same fault =
    let inside : x ≡ stops.WriteFault = cc in
    h (e ∙ ap Err inside)

-- what ended well, or for want of memory, is no fault of writing
pub well_is_no_fault : {r : Result (Unit {0}) Stop} → r ≡ Ok tt → r ≡ Err stops.WriteFault → ⊥
well_is_no_fault well fault = cc

want_is_no_fault : {r : Result (Unit {0}) Stop} → r ≡ Err stops.NoMemory → r ≡ Err stops.WriteFault → ⊥
want_is_no_fault want fault = cc

-- ---- what is said of one function alone

one_text : (before after : Option (List ℕ)) (lines : List LineBlock) (marks : ℕ) → Appended before after (parts_text lines) → Appended before after (said_text (record { lines = lines; marks = marks } ∷ []))
one_text before after lines marks h = subst (λ (ls : List LineBlock). Appended before after (parts_text ls)) (sym (append-nil lines)) h

one_prefix : (before after : Option (List ℕ)) (lines : List LineBlock) → AppendedPrefix before after (parts_text lines) → AppendedPrefix before after (said_text (record { lines = lines; marks = 0 } ∷ []))
one_prefix before after lines h = subst (λ (ls : List LineBlock). AppendedPrefix before after (parts_text ls)) (sym (append-nil lines)) h

one_mark : (first last : ℕ) (lines : List LineBlock) (marks : ℕ) → AreCounted first last marks → AreCounted first last (said_marks (record { lines = lines; marks = marks } ∷ []))
one_mark first last lines marks h = let same : marks ≡ marks + 0 = omega arith in subst (AreCounted first last) same h

-- what was written of a unit, under the names that it leaves
pub record HasWrittenUnit (bytes : List ℕ) (without : Kinds) (budget : ℕ) (mark : Bool) (es : List NameEntry) (body : Option ℕ) (tokens : List Token) (now : List NameEntry) (r : Result (Unit {0}) Stop) (before after : Option (List ℕ)) (faults_before faults_after first last : ℕ) (counts : Counts) : Type 0 where
  pub written : OnOk r (WroteUnit bytes without budget mark es body tokens before after first last counts now)
  pub stopped : OnErr r (HasStoppedInUnit bytes without budget mark es body tokens before after)
  pub later : faults_before ≤ faults_after
  pub fault : r ≡ Err stops.WriteFault → Rose faults_before faults_after
  pub given_up : first ≤ last

module _ {O A : Type 0} (taken : O → Option (List ℕ)) (faults : O → ℕ) (given_up : A → ℕ) (bytes : List ℕ) (without : Kinds) (mark : Bool) (es now : List NameEntry) (body : Option ℕ) (tokens : List Token) (r : Result (Unit {0}) Stop) (v w : ClaimVisitor) (o p : O) (a b : A) (none : v.counts ≡ nothing_counted) where
  abbrev Written : Type 0
  Written = HasWrittenUnit bytes without v.budget mark es body tokens now r (taken o) (taken p) (faults o) (faults p) (given_up a) (given_up b) w.counts

  -- nothing was said of it
  unsaid : (x : UnitOutcome) → IsOutcome bytes without mark es body tokens x now → IsOutcomePart bytes without v.budget now tokens x [] w.counts → r ≡ Ok tt → p ≡ o → b ≡ a → Written
  unsaid x is part well out asked = record {
    written = ended_well r _ (record {
      said = [];
      are = record { outcome = x; is = is; part = part };
      written = subst (λ y. Appended (taken o) (taken y) []) (sym out) (nothing_appended (taken o));
      counted = subst (λ y. AreCounted (given_up a) (given_up y) 0) (sym asked) (counted_none (given_up a) (given_up a) (omega arith));
    });
    stopped = no_error _ well;
    later = subst (λ y. faults o ≤ faults y) (sym out) (omega arith);
    fault = λ e. absurd (well_is_no_fault well e);
    given_up = subst (λ y. given_up a ≤ given_up y) (sym asked) (omega arith);
  }

  -- the part of a function was written
  function_part : (n : Node) (f : FunctionTree) → IsOutcome bytes without mark es body tokens (is_judged n f) now
      → WroteFunction (unit_typing bytes now (defines n f)) without f v.budget (beginning_of tokens) (taken o) (taken p) (given_up a) (given_up b) w.counts → WroteUnit bytes without v.budget mark es body tokens (taken o) (taken p) (given_up a) (given_up b) w.counts now
  function_part n f is h =
      let lines = function_parts (beginning_of tokens) h.claims in
      let marks = all_marks h.findings + left_count h.claims in
      let part : FunctionPart = record { lines = lines; marks = marks } in
      record {
        said = part ∷ [];
        are = record {
          outcome = is_judged n f;
          is = is;
          part = (part, refl, record { findings = h.findings; claims = h.claims; claimed = record { lawful = h.lawful; are = h.are }; same_lines = refl; same_marks = refl; same_counts = h.same_counts });
        };
        written = one_text (taken o) (taken p) lines marks h.written;
        counted = one_mark (given_up a) (given_up b) lines marks h.counted;
      }

  function_stopped : (n : Node) (f : FunctionTree) → IsOutcome bytes without mark es body tokens (is_judged n f) now
      → HasStoppedIn (unit_typing bytes now (defines n f)) without f v.budget (beginning_of tokens) (taken o) (taken p) → HasStoppedInUnit bytes without v.budget mark es body tokens (taken o) (taken p)
  function_stopped n f is (inl same) = inl same
  function_stopped n f is (inr h) =
      let lines = function_parts (beginning_of tokens) h.claims in
      let part : FunctionPart = record { lines = lines; marks = 0 } in
      inr (record {
        said = part ∷ [];
        begun = record {
          node = n;
          tree = f;
          now = now;
          is = is;
          part = part;
          begun = record { count = h.count; findings = h.findings; claims = h.claims; claimed = record { lawful = h.lawful; are = h.are }; same_lines = refl };
          same_said = refl;
        };
        written = one_prefix (taken o) (taken p) lines h.written;
      })

  by_outcome : (x : UnitOutcome) → IsOutcome bytes without mark es body tokens x now → HasDone LeavesNothing (JudgesClaims taken faults given_up) bytes without now tokens x r v w o p a b → Written
  by_outcome no_function is h =
      let same = h.1 in
      unsaid no_function is (refl, ap (λ (y : ClaimVisitor). y.counts) same.visitor ∙ none) h.0 same.out same.asked
  by_outcome (left_out cause) is h = unsaid (left_out cause) is (refl, h.same_counts) h.well h.out h.asked
  by_outcome (is_judged n f) is h = record {
    written = on_ok r _ _ (function_part n f is) h.written;
    stopped = on_error r _ _ (function_stopped n f is) h.stopped;
    later = h.later;
    fault = h.fault;
    given_up = h.given_up;
  }

  pub unit_written : HasVisitedUnit LeavesNothing (JudgesClaims taken faults given_up) bytes without mark es body tokens now r v w o p a b → Written
  unit_written (inl before) =
      let same = before.untouched in
      record {
        written = no_answer _ before.answer;
        stopped = an_error _ before.answer (inl (ap taken same.out));
        later = subst (λ y. faults o ≤ faults y) (sym same.out) (omega arith);
        fault = λ e. absurd (want_is_no_fault before.answer e);
        given_up = subst (λ y. given_up a ≤ given_up y) (sym same.asked) (omega arith);
      }
  unit_written (inr visited) = by_outcome visited.outcome visited.is visited.done
