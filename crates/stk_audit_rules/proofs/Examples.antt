-- Audits of small bundles over a made-up source of 74 bytes: at byte 0 a function of one key begins, a `_Bool`, with a
-- candidate and a condition; only the run of the map 0 hits the candidate, and it does so behind the condition. At byte
-- 80 begins another one, of too many input bits.
use Rattle.std.proofs.Common.{◌≡◌, ℕ, ◌⊎◌, inl, inr, Bool, true, false, ◌&&◌, ◌||◌, nat_eq, nat_lt, if◌then◌else◌, ℤ, pos, List, [], ◌∷◌, ◌++◌, length, Option, Some, None, refl, sym, ap, subst, ◌∙◌, arith}
use Rattle.std.specs.Prelude.{codes}
use Rattle.std.proofs.lemmas.List.{append-nil}
use Rattle.std.specs.Fmt.{digits}
use Rattle.std.specs.Ordering.{int_eq}
use Rattle.stk_ctype.specs.declared.kind.IntKind.TheVariants as kind
use Rattle.stk_numbers.specs.declared.conditions.UbKind.TheVariants as ub
use Rattle.stk_numbers.specs.declared.conditions.CandKind.TheVariants as cand
use Rattle.stk_numbers.specs.declared.conditions.Candidate.{Candidate}
use Rattle.stk_numbers.specs.declared.conditions.Condition.{Condition}
use Rattle.stk_meaning.specs.declared.entry.Entry.{Entry}
use Rattle.stk_meaning.specs.declared.entry.Entry.TheVariants.{Ub, Seen}
use Rattle.stk_meaning.specs.Hits.{HitsFree}
use Rattle.stk_meaning.specs.Findings.{Answers, NoAnswer}
use Rattle.stk_clauses.specs.declared.store.Cnf.{Cnf}
use Rattle.stk_proofs.specs.Lrat.{no_step}
use Rattle.stk_bundle.specs.declared.line.BundleLine.{BundleLine}
use Rattle.stk_bundle.specs.declared.line.BundleLine.TheVariants.{Head, Source, Without, Function, Unstable, Hit, Need, Tried, Clauses, Steps, End}
use Rattle.stk_bundle.specs.declared.stage.Stage.{Stage}
use Rattle.stk_bundle.specs.declared.stage.Stage.TheVariants as stage
use Rattle.stk_bundle.specs.Lines.{FitsLine, line_text}
use Rattle.stk_bundle.specs.Blocks.{IsBlock}
use Rattle.stk_bundle.specs.Claims.{candidate_number, residues}
use Rattle.stk_bundle.specs.Grammar.{next_stage}
use Rattle.stk_bundle.specs.Bundles.{block_lines, IsNextPart}
use Rattle.stk_audit_rules.specs.declared.audit.Start.{Start}
use Rattle.stk_audit_rules.specs.declared.audit.Audit.TheVariants.{Yes, No}
use Rattle.stk_audit_rules.specs.declared.audit.Why.TheVariants as why
use Rattle.stk_audit_rules.specs.Worlds.{World, AuditedFunction, IsAnsweredBy}
use Rattle.stk_audit_rules.specs.Knowing.{Known, nothing_known, kinds_taken}
use Rattle.stk_audit_rules.specs.Naming.{is_next_candidate, NamesCandidate, NamesCondition}
use Rattle.stk_audit_rules.specs.Starts.{no_more, one_more, this, later, IsShown}
use Rattle.stk_audit_rules.specs.Reasons.{head, source, without, function, unstable, hit, need, tried, end, other_length, no_function, no_candidate, no_start, too_wide, answered, other_clauses, no_clauses, no_refutation}
use Rattle.stk_audit_rules.specs.Audits.{IsAuditFrom, all_hold, goes_on, fails, no_line, short_block, IsAudit}
use Rattle.stk_audit_rules.proofs.Sets.{hit_is_found}
use Rattle.stk_audit_rules.proofs.Claims.{false_true}

abbrev zero_at_8 : Condition
zero_at_8 = record { node = 8; kind = ub.Zero }

abbrev test_at_12 : Candidate
test_at_12 = record { node = 12; kind = cand.AlwaysFalse }

abbrev trace_of : List ℤ → List Entry
trace_of [] = []
trace_of (x ∷ xs) = if int_eq x (pos 0) then Ub zero_at_8 ∷ Seen 12 true None ∷ [] else Seen 12 false None ∷ []

-- the clause list of one empty clause
abbrev empty_clause : Cnf
empty_clause = record { vars = 0; store = [] ∷ [] }

abbrev small_function : Bool → AuditedFunction
small_function few = record {
  keys = kind.Bool ∷ [];
  candidates = test_at_12 ∷ [];
  subject = record {
    IsMap = λ xs. (xs ≡ pos 0 ∷ []) ⊎ (xs ≡ pos 1 ∷ []);
    Before = λ xs ys. ⊥;
    run = trace_of;
    conditions = zero_at_8 ∷ [];
    tries_all = few;
    Spent = λ c set. ⊥;
    Suffices = λ c set. Unit {0};
  };
  Stands = λ c set own. own ≡ empty_clause;
}

abbrev small : World
small = record {
  length = 74;
  is_function = λ ks at. nat_eq at 0 || nat_eq at 80;
  function = λ ks at. small_function (nat_eq at 0);
}

-- the map 0 hits the candidate, and no other; it violates the condition before
zero_answers : (few : Bool) → Answers (small_function few).subject test_at_12 [] (pos 0 ∷ [])
zero_answers few = record { valid = inl refl; hits = record { before = Ub zero_at_8 ∷ []; entry = Seen 12 true None; behind = []; is = refl; hit = refl; free = refl } }

hits_it : (few : Bool) → IsAnsweredBy (small_function few) test_at_12 [] (0 ∷ [])
hits_it few = record { map = pos 0 ∷ []; same = refl; answers = zero_answers few }

none_free : (few : Bool) → NoAnswer (small_function few).subject test_at_12 (zero_at_8 ∷ [])
none_free few start a = elim a.valid [
  | inl e ↦ false_true (hit_is_found (zero_at_8 ∷ []) test_at_12 (trace_of (pos 0 ∷ [])) (subst (λ xs. HitsFree (zero_at_8 ∷ []) test_at_12 (trace_of xs)) e a.hits))
  | inr e ↦ false_true (hit_is_found (zero_at_8 ∷ []) test_at_12 (trace_of (pos 1 ∷ [])) (subst (λ xs. HitsFree (zero_at_8 ∷ []) test_at_12 (trace_of xs)) e a.hits))
]

one_is_no_start : (few : Bool) → IsAnsweredBy (small_function few) test_at_12 [] (1 ∷ []) → ⊥
one_is_no_start few h = elim h.answers.valid [
  | inl e ↦ apart (ap (λ xs. residues (kind.Bool ∷ []) xs) (sym e) ∙ h.same)
  | inr e ↦ false_true (hit_is_found [] test_at_12 (trace_of (pos 1 ∷ [])) (subst (λ xs. HitsFree [] test_at_12 (trace_of xs)) e h.answers.hits))
]
  where
    apart : ◌≡◌ {A = List ℕ} (0 ∷ []) (1 ∷ []) → ⊥
    apart e = cc

-- a line without a block
line_of : (at next : Stage) (text : List ℕ) (l : BundleLine) (behind : List ℕ) → text ≡ (line_text l ++ 10 ∷ []) ++ behind → FitsLine l → next_stage at l ≡ Some next → block_lines l ≡ 0
    → IsNextPart at text (record { line = l; block = [] }) next behind
line_of at next text l behind whole fits leads none = record { whole = whole; is = record { fits = fits; block = record { count = sym none; ends = refl } }; leads = leads }

-- a line with a block
lines_of : (at next : Stage) (text : List ℕ) (l : BundleLine) (block : List ℕ) → text ≡ line_text l ++ 10 ∷ block → FitsLine l → next_stage at l ≡ Some next → IsBlock (block_lines l) block → IsNextPart at text (record { line = l; block = block }) next []
lines_of at next text l block whole fits leads b = record { whole = whole ∙ sym (append-nil (line_text l ++ 10 ∷ block)); is = record { fits = fits; block = b }; leads = leads }

-- the claim of the candidate, with its condition and a start for each
abbrev start_of : ℕ → ℕ → Option Condition → Start
start_of line n shows = record { line = line; residues = n ∷ []; shows = shows }

abbrev claim_with : ℕ → List Condition → List Start → Known
claim_with at members starts = record { without = kinds_taken []; at = Some at; last = Some test_at_12; members = members; starts = starts; clauses = None; claims = [] }

shown : (at : ℕ) → IsShown small (claim_with at (zero_at_8 ∷ []) (start_of 6 0 None ∷ start_of 7 0 (Some zero_at_8) ∷ [])) at test_at_12
shown at = record { claim = record { here = refl; this = refl }; all = one_more (hits_it (nat_eq at 0)) (one_more (hits_it (nat_eq at 0)) no_more) }

-- ---- a bundle of one claim, whose start shows the condition needed

names_12 : NamesCandidate small (record nothing_known { at = Some 0 }) 12 3 test_at_12
names_12 = record { at = 0; here = refl; same_node = refl; same_kind = refl; exists = (0, omega arith, refl); next = refl }

names_8 : (starts : List Start) → NamesCondition small (claim_with 0 [] starts) 8 2 zero_at_8
names_8 starts = record { at = 0; here = refl; same_node = refl; same_kind = refl; exists = (0, omega arith, refl); next = refl }

one_claim : IsAudit small (codes "stack bundle 1\nsource 74\nwithout -\nfunction 0\nunstable 12 3\nhit 0\nneed 8 2 0\ntried\nend\n")
    (Yes (record { at = 0; candidate = test_at_12; set = zero_at_8 ∷ []; starts = start_of 6 0 None ∷ start_of 7 0 (Some zero_at_8) ∷ [] } ∷ []))
unfolding digits
one_claim =
    goes_on (line_of stage.Start stage.Named _ Head (codes "source 74\nwithout -\nfunction 0\nunstable 12 3\nhit 0\nneed 8 2 0\ntried\nend\n") refl tt refl refl) head
    (goes_on (line_of stage.Named stage.Measured _ (Source 74) (codes "without -\nfunction 0\nunstable 12 3\nhit 0\nneed 8 2 0\ntried\nend\n") refl (omega arith) refl refl) (source refl)
    (goes_on (line_of stage.Measured stage.Opened _ (Without []) (codes "function 0\nunstable 12 3\nhit 0\nneed 8 2 0\ntried\nend\n") refl tt refl refl) without
    (goes_on (line_of stage.Opened stage.Function _ (Function 0) (codes "unstable 12 3\nhit 0\nneed 8 2 0\ntried\nend\n") refl (omega arith) refl refl) (function (record { exists = refl; next = refl }))
    (goes_on (line_of stage.Function stage.Candidate _ (Unstable 12 3) (codes "hit 0\nneed 8 2 0\ntried\nend\n") refl (omega arith, omega arith) refl refl) (unstable names_12)
    (goes_on (line_of stage.Candidate stage.Set _ (Hit (0 ∷ [])) (codes "need 8 2 0\ntried\nend\n") refl (omega arith, tt) refl refl) hit
    (goes_on (line_of stage.Set stage.Set _ (Need 8 2 (0 ∷ [])) (codes "tried\nend\n") refl (omega arith, omega arith, (omega arith, tt)) refl refl) (need (names_8 (start_of 6 0 None ∷ [])))
    (goes_on (line_of stage.Set stage.Item _ Tried (codes "end\n") refl tt refl refl) (tried (shown 0) refl (none_free true))
    (goes_on (line_of stage.Item stage.Ended _ End [] refl tt refl refl) end all_hold))))))))

-- ---- form: no line may stand behind `end`

behind_end : (s : Known) → IsAuditFrom small stage.Ended s 10 (codes "end\n") (No 10 why.Form)
behind_end s = no_line (λ e f. apart f) (λ l behind h. h.stands refl)
  where
    apart : codes "end\n" ≡ [] → ⊥
    apart e = cc

-- the block of line 8 has a line too few: line 10 is missing
short : IsAuditFrom small stage.Set (claim_with 0 (zero_at_8 ∷ []) (start_of 6 0 None ∷ start_of 7 0 (Some zero_at_8) ∷ [])) 8 (codes "cnf 2\np cnf 0 1\n") (No 10 why.Form)
unfolding digits
short = short_block (record { line = Clauses 2; behind = codes "p cnf 0 1\n"; next = record { whole = refl; fits = omega arith; stands = λ e. some_none e }; short = omega arith }) (λ e. (0, test_at_12, shown 0))
  where
    some_none : ◌≡◌ {A = Option Stage} (Some stage.Clauses) None → ⊥
    some_none e = cc

-- a block that isn't read
unread : IsAuditFrom small stage.Set (claim_with 0 (zero_at_8 ∷ []) (start_of 6 0 None ∷ start_of 7 0 (Some zero_at_8) ∷ [])) 8 (codes "cnf 1\np cnf 0\n") (No 8 why.Form)
unfolding digits
unread = fails (lines_of stage.Set stage.Clauses _ (Clauses 1) (codes "p cnf 0\n") refl (omega arith) refl (record { count = refl; ends = refl })) (no_clauses (shown 0) refl)

-- ---- name: another length, no function, a candidate that is repeated

other_source : IsAuditFrom small stage.Named nothing_known 2 (codes "source 75\n") (No 2 why.Name)
unfolding digits
other_source = fails (line_of stage.Named stage.Measured _ (Source 75) [] refl (omega arith) refl refl) (other_length (λ e. absurd (omega (arith, e))))

nowhere : IsAuditFrom small stage.Opened nothing_known 4 (codes "function 1\n") (No 4 why.Name)
unfolding digits
nowhere = fails (line_of stage.Opened stage.Function _ (Function 1) [] refl (omega arith) refl refl) (no_function (λ h. false_true h.exists))

repeated : IsAuditFrom small stage.Item (claim_with 0 [] []) 9 (codes "unstable 12 3\n") (No 9 why.Name)
unfolding digits
repeated = fails (line_of stage.Item stage.Candidate _ (Unstable 12 3) [] refl (omega arith, omega arith) refl refl) (no_candidate (λ c h. false_true (sym (early c h.same_node h.same_kind) ∙ h.next)))
  where
    early : (c : Candidate) → c.node ≡ 12 → candidate_number c.kind ≡ 3 → is_next_candidate (Some test_at_12) c ≡ false
    early c n k = ap (λ x. nat_lt 12 x || (nat_eq 12 x && nat_lt 3 (candidate_number c.kind))) n ∙ ap (λ x. nat_lt 12 12 || (nat_eq 12 12 && nat_lt 3 x)) k

-- ---- start: the one of line 7 doesn't hit the candidate; it is told at `tried`, where the set is known

wrong_start : IsAuditFrom small stage.Set (claim_with 0 (zero_at_8 ∷ []) (start_of 6 0 None ∷ start_of 7 1 (Some zero_at_8) ∷ [])) 8 (codes "tried\n") (No 7 why.Start)
wrong_start = fails (line_of stage.Set stage.Item _ Tried [] refl tt refl refl) (no_start refl (record { at = 0; c = test_at_12; claim = record { here = refl; this = refl }; first = later (hits_it true) (this (one_is_no_start true)) }))

-- ---- tried: a map hits the candidate free of an empty set; the function has too many input bits

no_set : IsAuditFrom small stage.Set (claim_with 0 [] (start_of 6 0 None ∷ [])) 7 (codes "tried\n") (No 7 why.Tried)
no_set = fails (line_of stage.Set stage.Item _ Tried [] refl tt refl refl) (answered {map = pos 0 ∷ []} (record { claim = record { here = refl; this = refl }; all = one_more (hits_it true) no_more }) (zero_answers true))

wide : IsAuditFrom small stage.Set (claim_with 80 (zero_at_8 ∷ []) (start_of 6 0 None ∷ start_of 7 0 (Some zero_at_8) ∷ [])) 8 (codes "tried\n") (No 8 why.Tried)
wide = fails (line_of stage.Set stage.Item _ Tried [] refl tt refl refl) (too_wide (shown 80) refl)

-- ---- formula: no clause in place of the empty one

other_list : IsAuditFrom small stage.Set (claim_with 0 (zero_at_8 ∷ []) (start_of 6 0 None ∷ start_of 7 0 (Some zero_at_8) ∷ [])) 8 (codes "cnf 1\np cnf 0 0\n") (No 8 (why.Formula empty_clause))
unfolding digits
other_list =
    fails (lines_of stage.Set stage.Clauses _ (Clauses 1) (codes "p cnf 0 0\n") refl (omega arith) refl (record { count = refl; ends = refl })) (other_clauses {list = record { vars = 0; store = [] }} (shown 0) refl refl (λ e. apart e))
  where
    apart : ◌≡◌ {A = Cnf} (record { vars = 0; store = [] }) empty_clause → ⊥
    apart e =
        let long : ◌≡◌ {A = ℕ} 0 1 = ap (λ (c : Cnf). length c.store) e in
        absurd (omega arith)

-- ---- derivation: one without a step

no_derivation : (s : Known) → s.clauses ≡ Some empty_clause → IsAuditFrom small stage.Clauses s 11 (codes "lrat 0\n") (No 11 why.Derivation)
unfolding digits
no_derivation s e = fails (line_of stage.Clauses stage.Item _ (Steps 0) [] refl (omega arith) refl refl) (no_refutation {d = record { steps = [] }} e no_step (λ h. let some = h.some in absurd (omega (arith, some))))
