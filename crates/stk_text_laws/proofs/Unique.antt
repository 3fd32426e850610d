-- A text whose functions have few input bits has one lawful text of records: each part that goes into it is determined.
use Rattle.std.proofs.Common.{◌≡◌, ◌≤◌, ℕ, Bool, true, false, Option, Some, None, List, [], ◌∷◌, ◌++◌, refl, sym, ap, subst, ◌∙◌}
use Rattle.std.proofs.lemmas.Bool.{false≢true}
use Rattle.stk_base.specs.declared.status.Status.{Status}
use Rattle.stk_lex.specs.declared.token.Token.{Token}
use Rattle.stk_lex.proofs.OneCut.{one_cut}
use Rattle.stk_lex.specs.declared.cutting.Piece.{Piece}
use Rattle.stk_lex.specs.Skimming.{kept_tokens, notes_of}
use Rattle.stk_lex.specs.Units.{units_of}
use Rattle.stk_ctype.specs.declared.symbol.NameEntry.{NameEntry}
use Rattle.stk_tree.specs.declared.node.Node.{Node}
use Rattle.stk_tree.specs.Syntax.{UnitTree, FunctionTree}
use Rattle.stk_tree.specs.Syntax as s
use Rattle.stk_numbers.specs.declared.conditions.Kinds.{Kinds}
use Rattle.stk_meaning.specs.Keys.{keys_of, input_bits}
use Rattle.stk_meaning.specs.Lists.{candidates}
use Rattle.stk_meaning.specs.declared.finding.Finding.{Finding}
use Rattle.stk_meaning.specs.PathFindings.{function_subject}
use Rattle.stk_finding_laws.proofs.Unique.{one_findings, function_ordered}
use Rattle.stk_records.specs.declared.options.Options.{Options}
use Rattle.stk_accept.specs.declared.accepting.Refusal.{Refusal}
use Rattle.stk_accept.specs.Accepting.{Accepts}
use Rattle.stk_records.specs.declared.counts.Counts.{Counts}
use Rattle.stk_records.specs.declared.line.Cause.{Cause}
use Rattle.stk_records.specs.declared.line.Line.{Line}
use Rattle.stk_records.specs.Counts.{counts_sum}
use Rattle.stk_units.specs.Functions.{unit_typing, is_definition}
use Rattle.stk_units.specs.Causes.{cause_of, body_cause}
use Rattle.stk_spent_queries.specs.Spent.{spent_at}
use Rattle.stk_units.specs.Counted.{one_judged}
use Rattle.stk_lint.specs.UnitLines.{skip_line, function_lines, AreFindingsOf, IsUnitLines, accepted, refused, unjudged, judged}
use Rattle.stk_lint.specs.Marks.{lines_marks}
use Rattle.stk_text_laws.specs.Texts.{AreNarrow, HasNarrowFunctions}
use Rattle.stk_records.specs.Form.{written_records, written_summary}
use Rattle.stk_units.specs.Counted.{status_of}
use Rattle.stk_units.specs.Pieces.{body_of_piece, tokens_of_piece}
use Rattle.stk_units.specs.Said.{no_unit, then_unit}
use Rattle.stk_lint.specs.LawfulText.{AreUnitsLines, IsLawfulText}
use Rattle.stk_accept_laws.proofs.Accepted.{one_tree, one_left, not_both, one_accepted, one_cause}

-- ---- functions and their causes

-- the function that a unit defines, or another one
function_in : FunctionTree → UnitTree → FunctionTree
function_in other (s.empty_unit n) = other
function_in other (s.declares n d) = other
function_in other (s.defines n f) = f

-- a cause, or another one
cause_in : Cause → Option Cause → Cause
cause_in other (Some cause) = cause
cause_in other None = other

-- whether there is a cause
has_cause : Option Cause → Bool
has_cause (Some cause) = true
has_cause None = false

-- what is skipped for a cause has it alone, and what has a cause isn't judged
one_some : (o o' : Option Cause) (cause other : Cause) → o ≡ o' → o ≡ Some cause → o' ≡ Some other → cause ≡ other
unfolding cause_in
one_some o o' cause other same e e' = ap (cause_in cause) (sym e ∙ same ∙ e')

pub not_none : (o o' : Option Cause) (cause : Cause) → o ≡ o' → o ≡ Some cause → o' ≡ None → ⊥
unfolding has_cause
not_none o o' cause same e e' = false≢true (sym (ap has_cause e') ∙ ap has_cause (sym same) ∙ ap has_cause e)

module _ (bytes : List ℕ) (punctuator : Bool) (es : List NameEntry) where
  pub one_definition : (tokens : List Token) (u v : UnitTree) (now also : List NameEntry) → Accepts bytes punctuator es tokens u now → Accepts bytes punctuator es tokens v also → is_definition u ≡ is_definition v
  one_definition tokens u v now also h k = ap is_definition (one_tree bytes punctuator es tokens u v h.tree k.tree)

  pub one_function : (n m : Node) (f g : FunctionTree) → s.defines n f ≡ s.defines m g → f ≡ g
  unfolding function_in
  one_function n m f g same = ap (function_in f) same

  -- one function has one cause
  pub same_cause : (without : Kinds) (tokens : List Token) (u v : UnitTree) (now also : List NameEntry) → Accepts bytes punctuator es tokens u now → Accepts bytes punctuator es tokens v also → body_cause bytes without now u ≡ body_cause bytes without also v
  same_cause without tokens u v now also h k =
      ap (λ (z : List NameEntry). body_cause bytes without z u) (one_accepted bytes punctuator es tokens u v now also h k) ∙ ap (body_cause bytes without also) (one_tree bytes punctuator es tokens u v h.tree k.tree)

-- ---- the lines of a unit

-- the same lines or text, counts and names
Same : {A : Type 0} → A → A → Counts → Counts → List NameEntry → List NameEntry → Type 0
Same text other counts also now later = (text ≡ other) × (counts ≡ also) × (now ≡ later)

-- Whatever findings are lawful and however they are written: where the findings are one, so are the lines.
module _ (Lawful : List NameEntry → UnitTree → FunctionTree → List Finding → Type 0) (lines : List NameEntry → UnitTree → FunctionTree → List Finding → List Line) (one : (now : List NameEntry) (u : UnitTree) (f : FunctionTree) (xs ys : List Finding) → Lawful now u f xs → Lawful now u f ys → xs ≡ ys) where
  same_judged : (u v : UnitTree) (f g : FunctionTree) (xs ys : List Finding) (now later : List NameEntry) → now ≡ later → u ≡ v → f ≡ g → Lawful now u f xs → Lawful later v g ys → Same (lines now u f xs) (lines later v g ys) (one_judged xs) (one_judged ys) now later
  unfolding Same
  same_judged u v f g xs ys now later names unit function h k =
      let back : Lawful now u f ys = subst (λ z. Lawful z u f ys) (sym names) (subst (λ z. Lawful later z f ys) (sym unit) (subst (λ z. Lawful later v z ys) (sym function) k)) in
      let same : xs ≡ ys = one now u f xs ys h back in
      (ap (lines now u f) same ∙ ap (λ z. lines z u f ys) names ∙ ap (λ z. lines later z f ys) unit ∙ ap (λ z. lines later v z ys) function, ap one_judged same, names)

-- findings of a function of few input bits
record AreFewFindings (bytes : List ℕ) (without : Kinds) (budget : ℕ) (now : List NameEntry) (u : UnitTree) (f : FunctionTree) (xs : List Finding) : Type 0 where
  lawful : AreFindingsOf bytes without budget now u f xs
  few : input_bits (keys_of (unit_typing bytes now u) without f) ≤ 16

-- a function has one list of findings
one_list : (bytes : List ℕ) (without : Kinds) (budget : ℕ) (now : List NameEntry) (u : UnitTree) (f : FunctionTree) (xs ys : List Finding) → AreFewFindings bytes without budget now u f xs → AreFewFindings bytes without budget now u f ys → xs ≡ ys
one_list bytes without budget now u f xs ys h k =
    let ty = unit_typing bytes now u in
    one_findings (function_subject ty without f (spent_at ty without f budget)) (function_ordered ty without f (spent_at ty without f budget) h.few) (candidates ty f) xs ys h.lawful k.lawful

-- each function that a unit may be has few
abbrev Narrow : List ℕ → Kinds → Bool → List NameEntry → List Token → Type 0
Narrow bytes without punctuator es tokens = (n : Node) (f : FunctionTree) (now : List NameEntry) → Accepts bytes punctuator es tokens (s.defines n f) now → input_bits (keys_of (unit_typing bytes now (s.defines n f)) without f) ≤ 16

module _ {bytes : List ℕ} {without : Kinds} {budget : ℕ} {punctuator : Bool} {es : List NameEntry} {body : Option ℕ} where
  one_unit_lines : {tokens : List Token} {lines other : List Line} {counts also : Counts} {now later : List NameEntry} → Narrow bytes without punctuator es tokens → IsUnitLines bytes without budget punctuator es body tokens lines counts now → IsUnitLines bytes without budget punctuator es body tokens other also later → Same lines other counts also now later
  unfolding Same
  one_unit_lines {tokens = tokens} few (accepted {now = a} u h plain) (accepted {now = b} v k plain') = (refl, refl, one_accepted bytes punctuator es tokens u v a b h k)
  one_unit_lines {tokens = tokens} few (accepted {now = a} u h plain) (refused {now = b} cause k) = absurd (not_both bytes punctuator es tokens body u a b cause h k)
  one_unit_lines {tokens = tokens} few (accepted {now = a} u h plain) (unjudged {now = b} n g cause k because) = absurd (false≢true (sym plain ∙ one_definition bytes punctuator es tokens u (s.defines n g) a b h k))
  one_unit_lines {tokens = tokens} few (accepted {now = a} u h plain) (judged {now = b} n g ys k none lawful) = absurd (false≢true (sym plain ∙ one_definition bytes punctuator es tokens u (s.defines n g) a b h k))
  one_unit_lines {tokens = tokens} few (refused {now = a} cause h) (accepted {now = b} v k plain) = absurd (not_both bytes punctuator es tokens body v b a cause k h)
  one_unit_lines few (refused {first = t} {others = ts} {now = a} cause h) (refused {now = b} cause' k) =
      (ap (λ (c : Refusal). skip_line bytes t.span.from (cause_of bytes c) ∷ []) (one_cause bytes punctuator es (t ∷ ts) cause cause' h.because k.because), refl, one_left bytes punctuator es (t ∷ ts) body a b h.leaves k.leaves)
  one_unit_lines {tokens = tokens} few (refused {now = a} cause h) (unjudged {now = b} n g other k because) = absurd (not_both bytes punctuator es tokens body (s.defines n g) b a cause k h)
  one_unit_lines {tokens = tokens} few (refused {now = a} cause h) (judged {now = b} n g ys k none lawful) = absurd (not_both bytes punctuator es tokens body (s.defines n g) b a cause k h)
  one_unit_lines {tokens = tokens} few (unjudged {now = a} n f cause h because) (accepted {now = b} v k plain) = absurd (false≢true (sym plain ∙ one_definition bytes punctuator es tokens v (s.defines n f) b a k h))
  one_unit_lines {tokens = tokens} few (unjudged {now = a} n f cause h because) (refused {now = b} cause' k) = absurd (not_both bytes punctuator es tokens body (s.defines n f) a b cause' h k)
  one_unit_lines few (unjudged {first = t} {others = ts} {now = a} n f cause h because) (unjudged {now = b} m g other k because') =
      (ap (λ (c : Cause). skip_line bytes t.span.from c ∷ []) (one_some _ _ cause other (same_cause bytes punctuator es without (t ∷ ts) (s.defines n f) (s.defines m g) a b h k) because because'), refl, one_accepted bytes punctuator es (t ∷ ts) (s.defines n f) (s.defines m g) a b h k)
  one_unit_lines {tokens = tokens} few (unjudged {now = a} n f cause h because) (judged {now = b} m g ys k none lawful) = absurd (not_none _ _ cause (same_cause bytes punctuator es without tokens (s.defines n f) (s.defines m g) a b h k) because none)
  one_unit_lines {tokens = tokens} few (judged {now = a} n f xs h none lawful) (accepted {now = b} v k plain) = absurd (false≢true (sym plain ∙ one_definition bytes punctuator es tokens v (s.defines n f) b a k h))
  one_unit_lines {tokens = tokens} few (judged {now = a} n f xs h none lawful) (refused {now = b} cause k) = absurd (not_both bytes punctuator es tokens body (s.defines n f) a b cause h k)
  one_unit_lines {tokens = tokens} few (judged {now = a} n f xs h none lawful) (unjudged {now = b} m g cause k because) = absurd (not_none _ _ cause (same_cause bytes punctuator es without tokens (s.defines m g) (s.defines n f) b a k h) because none)
  one_unit_lines {tokens = tokens} few (judged {now = a} n f xs h none lawful) (judged {now = b} m g ys k none' lawful') =
      let unit : s.defines n f ≡ s.defines m g = one_tree bytes punctuator es tokens (s.defines n f) (s.defines m g) h.tree k.tree in
      let names : a ≡ b = one_accepted bytes punctuator es tokens (s.defines n f) (s.defines m g) a b h k in
      same_judged (AreFewFindings bytes without budget) (function_lines bytes without) (one_list bytes without budget) (s.defines n f) (s.defines m g) f g xs ys a b names unit (one_function bytes punctuator es n m f g unit) (record { lawful = lawful; few = few n f a h }) (record { lawful = lawful'; few = few m g b k })

-- ---- the lines of units

one_units_lines : (bytes : List ℕ) (o : Options) {tokens : List Token} {es fs : List NameEntry} {ps : List Piece} {lines other : List Line} {counts also : Counts} → es ≡ fs → AreNarrow bytes o tokens es ps → AreUnitsLines bytes o tokens es ps lines counts → AreUnitsLines bytes o tokens fs ps other also → (lines ≡ other) × (counts ≡ also)
unfolding Same
one_units_lines bytes o names few no_unit no_unit = (refl, refl)
one_units_lines bytes o {tokens = tokens} {fs = fs} names few (then_unit {es = es} {now = now} {p = p} {ps = ps} {said = a} {others = xs} {counts = m} {more = ms} h hs) (then_unit {now = later} {said = b} {others = ys} {counts = n} {more = ns} k ks) =
    let there = subst (λ (z : List NameEntry). IsUnitLines bytes o.without o.budget p.no_return z (body_of_piece p) (tokens_of_piece tokens p) b n later) (sym names) k in
    let first = one_unit_lines few.0 h there in
    let rest = one_units_lines bytes o first.2 (few.1 a m now h) hs ks in
    (ap (λ (x : List Line). x ++ xs) first.0 ∙ ap (λ (x : List Line). b ++ x) rest.0, ap (λ (x : Counts). counts_sum x ms) first.1 ∙ ap (counts_sum n) rest.1)

pub one_text : (bytes : List ℕ) (o : Options) (text other : List ℕ) (status also : Status) (marks others : ℕ) → HasNarrowFunctions bytes o → IsLawfulText bytes o text status marks → IsLawfulText bytes o other also others → (text ≡ other) × (status ≡ also) × (marks ≡ others)
one_text bytes o text other status also marks others few h k =
    let cut : h.units.tokens ≡ k.units.tokens = one_cut bytes h.units.tokens k.units.tokens h.units.cut k.units.cut in
    let there = subst (λ (ts : List Token). AreUnitsLines bytes o (kept_tokens bytes ts) [] (units_of bytes (kept_tokens bytes ts) (notes_of bytes ts)) k.lines k.counts) (sym cut) k.units.units in
    let same = one_units_lines bytes o refl (few h.units.tokens h.units.cut) h.units.units there in
    let whole : List Line → Counts → List ℕ = λ lines counts. written_records o lines ++ written_summary o.json o.without counts in (
      h.same_text ∙ ap (λ (x : List Line). whole x h.counts) same.0 ∙ ap (whole k.lines) same.1 ∙ sym k.same_text,
      h.same_status ∙ ap (λ (x : Counts). status_of x.unstable x.undecided) same.1 ∙ sym k.same_status,
      h.same_marks ∙ ap lines_marks same.0 ∙ sym k.same_marks,
    )
