-- What is kept while functions are taken up.
use Rattle.std.proofs.Common.{◌≡◌, ℕ, ◌<◌, ◌^◌, true, false, not, List, [], Option, Some, None, refl, sym, ap, subst, ◌∙◌, arith}
use Rattle.std.specs.Option.{is_some}
use Rattle.std.proofs.lemmas.Bool.{false≢true, ltb-true, lt-ltb}
use Rattle.stk_lex.specs.declared.cutting.Piece.{Piece}
use Rattle.stk_ctype.specs.declared.symbol.NameEntry.{NameEntry}
use Rattle.stk_numbers.specs.declared.conditions.Kinds.{Kinds}
use Rattle.stk_meaning.specs.Keys.{keys_of}
use Rattle.stk_type_laws.proofs.Kept.{units_keep_order}
use Rattle.stk_hits.specs.Tables.{Table}
use Rattle.stk_records.specs.declared.line.Cause.{Cause}
use Rattle.stk_audit_rules.specs.Worlds.{AuditedFunction}
use Rattle.stk_audit_rules.specs.Naming.{is_next_function}
use Rattle.stk_audit.specs.Hands.{Hand, begins, hand_at, function_at}
use Rattle.stk_source_audit.specs.declared.answering.FunctionAtHand.{FunctionAtHand}
use Rattle.stk_source_audit.specs.Reader.{units_read}
use Rattle.stk_source_audit.specs.Definitions.{Definition, definition_at, definition_unit, definition_typing}
use Rattle.stk_source_audit.specs.Functions.{audited_function}
use Rattle.stk_source_audit.specs.Sources.{is_judged_one, judged_one, CutSource, source_units, source_world, SourceAtHand}
use Rattle.stk_source_audit.specs.Judged.{AreListsBy, IsJudgedUnit}
use Rattle.stk_source_audit.specs.Taking.{HasTaken}
use Rattle.stk_source_audit.specs.Keeping.{IsCutWell, hand_in, IsHand, IsKept}

-- nothing was read yet
pub nothing_read : (s : CutSource) → IsCutWell s → IsKept s s.pieces [] None None
nothing_read s cut = record { cut = cut; joined = (0, cut.joined); orderly = units_keep_order.first; ahead = λ at e. refl; at_hand = tt }

-- ---- a function is taken up

-- what begins behind a byte begins behind the function at hand, where the byte does
next_behind : (hand : Option ℕ) (at later : ℕ) → is_next_function hand at ≡ true → at < later → is_next_function hand later ≡ true
next_behind None at later e l = refl
next_behind (Some b) at later e l = lt-ltb b later (omega (arith, ltb-true b at e, l))

module _ (s : CutSource) (before : List Piece) (es : List NameEntry) (hand : Option FunctionAtHand) (hits : Option Table) (kept : IsKept s before es hand hits) (without : Kinds) (at : ℕ) (next : is_next_function (begins (hand_in hand)) at ≡ true) (now : List NameEntry) (rest : List Piece) where
  module _ (h : FunctionAtHand) (t : HasTaken s.bytes s.tokens es before without at (Some h) now rest) where
    ahead_still : (later : ℕ) → is_next_function (Some h.at) later ≡ true → definition_at (source_units s) later ≡ definition_at (units_read s.bytes s.tokens now rest) later
    ahead_still later e =
        let l : at < later = omega (arith, t.taken.same_place, ltb-true h.at later e) in
        kept.ahead later (next_behind (begins (hand_in hand)) at later next l) ∙ t.ahead later l

    is_hand : IsHand s now None h
    is_hand = record {
      definition = t.taken.definition;
      here = ap (definition_at (source_units s)) t.taken.same_place ∙ kept.ahead at next ∙ t.taken.here;
      same_names = t.taken.same_names;
      same_unit = t.taken.same_unit;
      judged = subst (λ (w : Kinds). IsJudgedUnit s.bytes w t.taken.definition.now (definition_unit t.taken.definition) t.taken.definition.function) (sym t.taken.same_kinds) t.taken.judged;
      lists = subst (λ (w : Kinds). AreListsBy (definition_typing s.bytes t.taken.definition) w t.taken.definition.function (keys_of (definition_typing s.bytes t.taken.definition) w t.taken.definition.function) h.lists) (sym t.taken.same_kinds) t.taken.lists;
      table = tt;
    }

    -- then it is at hand
    pub now_at_hand : IsKept s rest now (Some h) None
    now_at_hand = record { cut = kept.cut; joined = t.joined; orderly = t.orderly; ahead = ahead_still; at_hand = is_hand }

    pub judged_there : (source_world s).is_function without at ≡ true
    judged_there =
        ap (is_judged_one s.bytes without) (kept.ahead at next ∙ t.taken.here)
        ∙ ap (λ (o : Option Cause). not (is_some o)) t.taken.judged.judged

  pub none_there : HasTaken s.bytes s.tokens es before without at None now rest → (source_world s).is_function without at ≡ false
  none_there t = ap (is_judged_one s.bytes without) (kept.ahead at next) ∙ t.taken

  -- where one is there
  pub kept_up : (o : Option FunctionAtHand) → is_some o ≡ true → HasTaken s.bytes s.tokens es before without at o now rest → IsKept s rest now o None
  kept_up None e t = absurd (false≢true e)
  kept_up (Some h) e t = now_at_hand h t

  pub judged_up : (o : Option FunctionAtHand) → is_some o ≡ true → HasTaken s.bytes s.tokens es before without at o now rest → true ≡ (source_world s).is_function without at
  judged_up None e t = absurd (false≢true e)
  judged_up (Some h) e t = sym (judged_there h t)

  pub hand_up : (o : Option FunctionAtHand) → is_some o ≡ true → HasTaken s.bytes s.tokens es before without at o now rest → hand_in o ≡ Some (hand_at without at)
  hand_up None e t = absurd (false≢true e)
  hand_up (Some h) e t =
      ap (λ (w : Kinds). Some (record { without = w; at = h.at })) t.taken.same_kinds
      ∙ ap (λ (n : ℕ). Some (record { without = without; at = n })) t.taken.same_place

  pub near_up : (o : Option FunctionAtHand) → is_some o ≡ true → HasTaken s.bytes s.tokens es before without at o now rest → at < 2 ^ 32
  near_up None e t = absurd (false≢true e)
  near_up (Some h) e t = t.taken.near

-- ---- the function at hand

hands_same : (a b : Hand) → ◌≡◌ {A = Option Hand} (Some a) (Some b) → a ≡ b
hands_same a b e = cc

module _ (s : CutSource) (names : List NameEntry) (hits : Option Table) (h : FunctionAtHand) (k : IsHand s names hits h) where
  -- what holds of it holds of the function of the source that begins there
  pub at_hand : (P : AuditedFunction → Type 0) → P (audited_function (definition_typing s.bytes k.definition) h.without k.definition.function) → (self : SourceAtHand) → ◌≡◌ {A = SourceAtHand} (record { source = s; hand = hand_in (Some h) }) self
      → (x : Hand) → self.hand ≡ Some x → P (function_at (source_world self.source) x)
  at_hand P p self e x is =
      let there : P (judged_one s.bytes h.without (definition_at (source_units s) h.at)) = subst (λ (o : Option Definition). P (judged_one s.bytes h.without o)) (sym k.here) p in
      let same : ◌≡◌ {A = Hand} (record { without = h.without; at = h.at }) x = hands_same _ _ (ap (λ (y : SourceAtHand). y.hand) e ∙ is) in
      subst (λ (y : SourceAtHand). P (function_at (source_world y.source) x)) e (subst (λ (y : Hand). P (function_at (source_world s) y)) same there)

  -- and the other way round
  pub asked_of_it : (P : AuditedFunction → Type 0) (self : SourceAtHand) → ◌≡◌ {A = SourceAtHand} (record { source = s; hand = hand_in (Some h) }) self → (x : Hand) → self.hand ≡ Some x → P (function_at (source_world self.source) x)
      → P (audited_function (definition_typing s.bytes k.definition) h.without k.definition.function)
  asked_of_it P self e x is p =
      let same : ◌≡◌ {A = Hand} (record { without = h.without; at = h.at }) x = hands_same _ _ (ap (λ (y : SourceAtHand). y.hand) e ∙ is) in
      let there : P (function_at (source_world s) (record { without = h.without; at = h.at })) = subst (λ (y : Hand). P (function_at (source_world s) y)) (sym same) (subst (λ (y : SourceAtHand). P (function_at (source_world y.source) x)) (sym e) p) in
      subst (λ (o : Option Definition). P (judged_one s.bytes h.without o)) k.here there
