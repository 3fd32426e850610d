-- Of a unit one thing becomes: it is accepted or refused in one way, and one cause leaves its function out.
use Rattle.std.proofs.Common.{◌≡◌, ℕ, Bool, true, false, Option, Some, None, List, refl, sym, ap, ◌∙◌}
use Rattle.std.proofs.lemmas.Bool.{false≢true}
use Rattle.stk_lex.specs.declared.token.Token.{Token}
use Rattle.stk_ctype.specs.declared.symbol.NameEntry.{NameEntry}
use Rattle.stk_numbers.specs.declared.conditions.Kinds.{Kinds}
use Rattle.stk_tree.specs.declared.node.Node.{Node}
use Rattle.stk_tree.specs.Syntax.{UnitTree, FunctionTree, empty_unit, declares, defines}
use Rattle.stk_accept.specs.declared.accepting.Refusal.{Refusal}
use Rattle.stk_accept.specs.Accepting.{Accepts}
use Rattle.stk_accept_laws.proofs.Accepted.{one_tree, one_left, not_both, one_accepted, one_cause}
use Rattle.stk_records.specs.declared.line.Cause.{Cause}
use Rattle.stk_units.specs.Functions.{is_definition}
use Rattle.stk_units.specs.Causes.{cause_of, body_cause}
use Rattle.stk_units.specs.Outcomes.{UnitOutcome, no_function, left_out, is_judged, IsOutcome, declaring, refusing, leaving, judging}

-- a cause, or another one
cause_in : Cause → Option Cause → Cause
cause_in other (Some cause) = cause
cause_in other None = other

-- whether there is a cause
has_cause : Option Cause → Bool
has_cause (Some cause) = true
has_cause None = false

one_some : (o o' : Option Cause) (cause other : Cause) → o ≡ o' → o ≡ Some cause → o' ≡ Some other → cause ≡ other
unfolding cause_in
one_some o o' cause other same e e' = ap (cause_in cause) (sym e ∙ same ∙ e')

not_none : (o o' : Option Cause) (cause : Cause) → o ≡ o' → o ≡ Some cause → o' ≡ None → ⊥
unfolding has_cause
not_none o o' cause same e e' = false≢true (sym (ap has_cause e') ∙ ap has_cause (sym same) ∙ ap has_cause e)

-- a unit that defines a function is judged as that function
judged_as : UnitTree → UnitOutcome
judged_as (empty_unit n) = no_function
judged_as (declares n d) = no_function
judged_as (defines n f) = is_judged n f

-- a unit isn't accepted as a function and as something else
not_plain : {bytes : List ℕ} {mark : Bool} {es : List NameEntry} {tokens : List Token} {u : UnitTree} {n : Node} {f : FunctionTree} {a b : List NameEntry} → Accepts bytes mark es tokens u a → is_definition u ≡ false → Accepts bytes mark es tokens (defines n f) b → ⊥
not_plain {bytes = bytes} {mark = mark} {es = es} {tokens = tokens} {u = u} {n = n} {f = f} h plain k = false≢true (sym plain ∙ ap is_definition (one_tree bytes mark es tokens u (defines n f) h.tree k.tree))

-- one function has one cause
same_cause : {bytes : List ℕ} (without : Kinds) {mark : Bool} {es : List NameEntry} {tokens : List Token} {u v : UnitTree} {a b : List NameEntry} → Accepts bytes mark es tokens u a → Accepts bytes mark es tokens v b → body_cause bytes without a u ≡ body_cause bytes without b v
same_cause {bytes = bytes} without {mark = mark} {es = es} {tokens = tokens} {u = u} {v = v} {a = a} {b = b} h k =
    ap (λ (z : List NameEntry). body_cause bytes without z u) (one_accepted bytes mark es tokens u v a b h k) ∙ ap (body_cause bytes without b) (one_tree bytes mark es tokens u v h.tree k.tree)

module _ {bytes : List ℕ} {without : Kinds} {mark : Bool} {es : List NameEntry} {body : Option ℕ} {tokens : List Token} where
  pub one_outcome : {x y : UnitOutcome} {now later : List NameEntry} → IsOutcome bytes without mark es body tokens x now → IsOutcome bytes without mark es body tokens y later → (x ≡ y) × (now ≡ later)
  unfolding judged_as
  one_outcome (declaring {now = a} u h plain) (declaring {now = b} v k plain') = (refl, one_accepted bytes mark es tokens u v a b h k)
  one_outcome (declaring {now = a} u h plain) (refusing {now = b} cause k) = absurd (not_both bytes mark es tokens body u a b cause h k)
  one_outcome (declaring u h plain) (leaving n g cause k because) = absurd (not_plain h plain k)
  one_outcome (declaring u h plain) (judging n g k none) = absurd (not_plain h plain k)
  one_outcome (refusing {now = a} cause h) (declaring {now = b} v k plain) = absurd (not_both bytes mark es tokens body v b a cause k h)
  one_outcome (refusing {now = a} cause h) (refusing {now = b} other k) =
      (ap (λ (c : Refusal). left_out (cause_of bytes c)) (one_cause bytes mark es tokens cause other h.because k.because), one_left bytes mark es tokens body a b h.leaves k.leaves)
  one_outcome (refusing {now = a} cause h) (leaving {now = b} n g other k because) = absurd (not_both bytes mark es tokens body (defines n g) b a cause k h)
  one_outcome (refusing {now = a} cause h) (judging {now = b} n g k none) = absurd (not_both bytes mark es tokens body (defines n g) b a cause k h)
  one_outcome (leaving n f cause h because) (declaring v k plain) = absurd (not_plain k plain h)
  one_outcome (leaving {now = a} n f cause h because) (refusing {now = b} other k) = absurd (not_both bytes mark es tokens body (defines n f) a b other h k)
  one_outcome (leaving {now = a} n f cause h because) (leaving {now = b} m g other k because') =
      (ap left_out (one_some _ _ cause other (same_cause without h k) because because'), one_accepted bytes mark es tokens (defines n f) (defines m g) a b h k)
  one_outcome (leaving n f cause h because) (judging m g k none) = absurd (not_none _ _ cause (same_cause without h k) because none)
  one_outcome (judging n f h none) (declaring v k plain) = absurd (not_plain k plain h)
  one_outcome (judging {now = a} n f h none) (refusing {now = b} cause k) = absurd (not_both bytes mark es tokens body (defines n f) a b cause h k)
  one_outcome (judging n f h none) (leaving m g cause k because) = absurd (not_none _ _ cause (same_cause without k h) because none)
  one_outcome (judging {now = a} n f h none) (judging {now = b} m g k none') =
      (ap judged_as (one_tree bytes mark es tokens (defines n f) (defines m g) h.tree k.tree), one_accepted bytes mark es tokens (defines n f) (defines m g) a b h k)
