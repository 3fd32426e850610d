-- What was done with a unit, from what was done with its parts.
use Rattle.std.proofs.Common.{◌≡◌, ℕ, ◌⊎◌, inl, inr, Bool, true, false, List, Option, Some, None, Result, Ok, Err, refl, sym, ap, subst, ◌∙◌}
use Rattle.std.specs.Prelude.{if◌then◌else◌, OnOk}
use Rattle.stk_lex.specs.declared.token.Token.{Token}
use Rattle.stk_ctype.specs.declared.symbol.NameEntry.{NameEntry}
use Rattle.stk_tree.specs.declared.node.Node.{Node}
use Rattle.stk_tree.specs.Syntax.{UnitTree, FunctionTree}
use Rattle.stk_tree.specs.Syntax as s
use Rattle.stk_tree.specs.Nodes.{unit_nodes}
use Rattle.stk_tree.specs.View.{view_unit}
use Rattle.stk_numbers.specs.declared.conditions.Kinds.{Kinds}
use Rattle.stk_type_rules.specs.Facts.{Fact}
use Rattle.stk_type_rules.specs.Outcome.{Outcome, Good, Refused}
use Rattle.stk_meaning.specs.Keys.{setting_of}
use Rattle.stk_meaning.specs.Weights.{weight}
use Rattle.stk_function_types.specs.Units.{TypedUnit, unit_typed}
use Rattle.stk_function_types.specs.Nodes.{typing_in}
use Rattle.stk_function_env.specs.Settings.{FunctionPlaces, setting_in}
use Rattle.stk_typed.specs.declared.untyped.Untyped.{Untyped}
use Rattle.stk_typed.specs.declared.untyped.Untyped.TheVariants as untyped
use Rattle.stk_typed.specs.Answering.{Answers, has_many}
use Rattle.stk_accept.specs.declared.accepting.Refusal.{Refusal}
use Rattle.stk_accept.specs.Accepting.{Accepts, Refuses}
use Rattle.stk_records.specs.declared.line.Cause.{Cause}
use Rattle.stk_records.specs.declared.line.Cause.TheVariants.{Nodes}
use Rattle.stk_records.specs.declared.writing.Stop.{Stop}
use Rattle.stk_records.specs.declared.writing.Stop.TheVariants as stops
use Rattle.stk_units.specs.Functions.{unit_typing, is_definition, IsDefinition}
use Rattle.stk_units.specs.Causes.{cause_of, refused_cause, weight_cause, measured_cause, first_cause, body_cause}
use Rattle.stk_units.specs.Outcomes.{no_function, left_out, is_judged, declaring, refusing, leaving, judging}
use Rattle.stk_units.specs.Visiting.{LeavingOut, Judging, IsUntouched, HasStoppedBefore, HasDoneBy, HasVisitedFunction, HasLeftUntyped, HasVisited, HasVisitedUnit}
use Rattle.stk_units.proofs.Measures.{measured_here}

-- what holds in any case holds where it ended well
pub holds_on_ok : (r : Result (Unit {0}) Stop) (P : Type 0) → P → OnOk r P
holds_on_ok (Ok x) P h = h
holds_on_ok (Err e) P h = tt

module _ {V O A : Type 0} (Leaves : LeavingOut V O A) (Judges : Judging V O A) (r : Result (Unit {0}) Stop) (v w : V) (o p : O) (a b : A) where
  -- ---- a function whose body is typed

  -- it is left out for its weight
  pub left_here : (f : FunctionTree) (q : FunctionPlaces) (t : TypedUnit) (without : Kinds) (bytes : List ℕ) (tokens : List Token) (found : Option Cause) (cause : Cause) → IsDefinition (view_unit t.unit) f → bytes ≡ t.bytes → setting_in q ≡ setting_of (typing_in t) without f → q.types ≡ t
      → found ≡ weight_cause (weight (typing_in q.types) q.without f) → found ≡ Some cause → Leaves bytes tokens cause r v w o p a b
      → HasVisitedFunction Leaves Judges t.bytes without t.entries tokens (view_unit t.unit) f (measured_cause (typing_in t) without (view_unit t.unit)) r v w o p a b
  left_here f q t without bytes tokens found cause is same setting types here because done =
      inr
      (subst (λ (m : Option Cause). HasDoneBy Leaves Judges t.bytes without t.entries tokens (view_unit t.unit) f m r v w o p a b) (sym (measured_here f q t without found is setting types here ∙ because))
      (subst (λ (x : List ℕ). Leaves x tokens cause r v w o p a b) same done))

  -- it is judged
  pub judged_here : (f : FunctionTree) (q : FunctionPlaces) (t : TypedUnit) (without : Kinds) (tokens : List Token) (found : Option Cause) → IsDefinition (view_unit t.unit) f → setting_in q ≡ setting_of (typing_in t) without f → q.types ≡ t
      → found ≡ weight_cause (weight (typing_in q.types) q.without f) → found ≡ None → Judges q.types.bytes q.without q.types.entries tokens (view_unit q.types.unit) f r v w o p a b
      → HasVisitedFunction Leaves Judges t.bytes without t.entries tokens (view_unit t.unit) f (measured_cause (typing_in t) without (view_unit t.unit)) r v w o p a b
  judged_here f q t without tokens found is setting types here none done =
      inr
      (subst (λ (m : Option Cause). HasDoneBy Leaves Judges t.bytes without t.entries tokens (view_unit t.unit) f m r v w o p a b) (sym (measured_here f q t without found is setting types here ∙ none))
      (subst (λ (k : Kinds). Judges t.bytes k t.entries tokens (view_unit t.unit) f r v w o p a b) (ap (λ g. g.without) setting)
      (subst (λ (x : TypedUnit). Judges x.bytes q.without x.entries tokens (view_unit x.unit) f r v w o p a b) types done)))

  -- ---- a function whose body isn't typed

  left_untyped : (T : Type 0) (bytes : List ℕ) (without : Kinds) (now : List NameEntry) (tokens : List Token) (u : UnitTree) (f : FunctionTree) (e : Untyped) → Answers {T = T} (has_many u) (unit_nodes u) (unit_typed bytes now u) (Err e) → HasLeftUntyped Leaves bytes tokens u e r v w o p a b
      → HasDoneBy Leaves Judges bytes without now tokens u f (body_cause bytes without now u) r v w o p a b
  left_untyped T bytes without now tokens u f e = on (has_many u) (unit_nodes u) (unit_typed bytes now u) e (measured_cause (unit_typing bytes now u) without u) where
    on : (many : Bool) (count : ℕ) (found : Outcome Fact) (e : Untyped) (m : Option Cause) → Answers {T = T} many count found (Err e) → HasLeftUntyped Leaves bytes tokens u e r v w o p a b
        → HasDoneBy Leaves Judges bytes without now tokens u f (if many then Some (Nodes count) else first_cause (refused_cause bytes u found) m) r v w o p a b
    on true count found (untyped.Rule n k) m h done = absurd h
    on true count found (untyped.Nodes c) m h done = subst (λ k. Leaves bytes tokens (Nodes k) r v w o p a b) h done
    on true count found untyped.NoMemory m h done = absurd done
    on false count (Good x facts) (untyped.Rule n k) m h done = absurd h
    on false count (Good x facts) (untyped.Nodes c) m h done = absurd h
    on false count (Good x facts) untyped.NoMemory m h done = absurd done
    on false count (Refused i j) (untyped.Rule n k) m h done = rw (h.0, h.1) at done
    on false count (Refused i j) (untyped.Nodes c) m h done = absurd h
    on false count (Refused i j) untyped.NoMemory m h done = absurd done

  pub untyped_visited : (T : Type 0) (bytes : List ℕ) (without : Kinds) (now : List NameEntry) (tokens : List Token) (u : UnitTree) (f : FunctionTree) (e : Untyped) → Answers {T = T} (has_many u) (unit_nodes u) (unit_typed bytes now u) (Err e)
      → HasStoppedBefore r v w o p a b ⊎ HasLeftUntyped Leaves bytes tokens u e r v w o p a b → HasVisitedFunction Leaves Judges bytes without now tokens u f (body_cause bytes without now u) r v w o p a b
  untyped_visited T bytes without now tokens u f e h (inl before) = inl before
  untyped_visited T bytes without now tokens u f e h (inr done) = inr (left_untyped T bytes without now tokens u f e h done)

  -- ---- a unit

  module _ (bytes : List ℕ) (without : Kinds) (mark : Bool) (es now : List NameEntry) (body : Option ℕ) (tokens : List Token) where
    of_function : (n : Node) (f : FunctionTree) (m : Option Cause) → Accepts bytes mark es tokens (s.defines n f) now → body_cause bytes without now (s.defines n f) ≡ m → HasDoneBy Leaves Judges bytes without now tokens (s.defines n f) f m r v w o p a b
        → HasVisited Leaves Judges bytes without mark es body tokens now r v w o p a b
    of_function n f (Some cause) h because done = record { outcome = left_out cause; is = leaving n f cause h because; done = done }
    of_function n f None h because done = record { outcome = is_judged n f; is = judging n f h because; done = done }

    -- that defines a function
    pub function_visited : (u : UnitTree) (f : FunctionTree) → IsDefinition u f → Accepts bytes mark es tokens u now → HasVisitedFunction Leaves Judges bytes without now tokens u f (body_cause bytes without now u) r v w o p a b
        → HasVisitedUnit Leaves Judges bytes without mark es body tokens now r v w o p a b
    function_visited u f d h (inl before) = inl before
    function_visited u f d h (inr done) =
        inr
        (of_function d.0 f (body_cause bytes without now (s.defines d.0 f)) (subst (λ x. Accepts bytes mark es tokens x now) d.1 h) refl
        (subst (λ x. HasDoneBy Leaves Judges bytes without now tokens x f (body_cause bytes without now x) r v w o p a b) d.1 done))

    -- that isn't accepted
    pub refusal_visited : (cause : Cause) (refusal : Refusal) → Refuses bytes mark es tokens body refusal now → cause ≡ cause_of bytes refusal → Leaves bytes tokens cause r v w o p a b
        → HasVisitedUnit Leaves Judges bytes without mark es body tokens now r v w o p a b
    refusal_visited cause refusal h same done = inr (record { outcome = left_out (cause_of bytes refusal); is = refusing refusal h; done = subst (λ k. Leaves bytes tokens k r v w o p a b) same done })

-- that has no function
pub nothing_visited : {V O A : Type 0} (Leaves : LeavingOut V O A) (Judges : Judging V O A) (v : V) (o : O) (a : A) (bytes : List ℕ) (without : Kinds) (mark : Bool) (es now : List NameEntry) (body : Option ℕ) (tokens : List Token) (u : UnitTree) → Accepts bytes mark es tokens u now → is_definition u ≡ false
    → HasVisitedUnit Leaves Judges bytes without mark es body tokens now (Ok tt) v v o o a a
nothing_visited Leaves Judges v o a bytes without mark es now body tokens u h none = inr (record { outcome = no_function; is = declaring u h none; done = (refl, record { visitor = refl; out = refl; asked = refl }) })
