use Rattle.std.proofs.Common.{◌≡◌, true, List, ap, subst, ◌∙◌}
use Rattle.std.specs.Option.{is_some}
use Rattle.stk_ctype.specs.declared.symbol.NameEntry.{NameEntry}
use Rattle.stk_audit_rules.specs.Naming.{is_next_function}
use Rattle.stk_audit.specs.Hands.{begins}
use Rattle.stk_source_audit.specs.Sources.{CutSource, source_world, SourceAtHand}
use Rattle.stk_source_audit.specs.Taking.{HasTaken}
use Rattle.stk_source_audit.proofs.Kept.{kept_up, judged_up, hand_up, near_up}
use Rattle.stk_source_audit.proofs.answering.SourceAnswersAnswering.take_up.Goals as goal

pub invariant_of-self-2 : goal.invariant_of-self-2
invariant_of-self-2 c =
    let i = c.self.inside in
    let s : CutSource = record { bytes = i.text.bytes.now; tokens = i.text.tokens.now; pieces = i.pieces.now } in
    let some : is_some c.in_ok-hand.field-0.hand ≡ true = let a = c.is_none.ensures in let b = c.if-is_none.false in let d = c.in_ok-hand.hand-is in cc in
    let taken = subst (λ (es : List NameEntry). HasTaken s.bytes s.tokens es i.rest.now c.args.without c.args.at c.in_ok-hand.field-0.hand c.take_function.new.names c.in_ok-hand.field-0.rest.now) c.replace-names.ensures.value c.in_ok-hand.ensures in
    let next = ap (λ (y : SourceAtHand). is_next_function (begins y.hand) c.args.at) c.self.view_is ∙ c.requires in
    kept_up s i.rest.now i.names i.hand i.hits c.self.invariant c.args.without c.args.at next c.take_function.new.names c.in_ok-hand.field-0.rest.now c.in_ok-hand.field-0.hand some taken

pub returns-clause-found : goal.returns-clause-found
returns-clause-found c =
    let i = c.self.inside in
    let s : CutSource = record { bytes = i.text.bytes.now; tokens = i.text.tokens.now; pieces = i.pieces.now } in
    let some : is_some c.in_ok-hand.field-0.hand ≡ true = let a = c.is_none.ensures in let b = c.if-is_none.false in let d = c.in_ok-hand.hand-is in cc in
    let taken = subst (λ (es : List NameEntry). HasTaken s.bytes s.tokens es i.rest.now c.args.without c.args.at c.in_ok-hand.field-0.hand c.take_function.new.names c.in_ok-hand.field-0.rest.now) c.replace-names.ensures.value c.in_ok-hand.ensures in
    let next = ap (λ (y : SourceAtHand). is_next_function (begins y.hand) c.args.at) c.self.view_is ∙ c.requires in
    judged_up s i.rest.now i.names i.hand i.hits c.self.invariant c.args.without c.args.at next c.take_function.new.names c.in_ok-hand.field-0.rest.now c.in_ok-hand.field-0.hand some taken ∙ ap (λ (y : SourceAtHand). (source_world y.source).is_function c.args.without c.args.at) c.self.view_is

pub returns-clause-hand : goal.returns-clause-hand
returns-clause-hand c = λ e.
    let i = c.self.inside in
    let s : CutSource = record { bytes = i.text.bytes.now; tokens = i.text.tokens.now; pieces = i.pieces.now } in
    let some : is_some c.in_ok-hand.field-0.hand ≡ true = let a = c.is_none.ensures in let b = c.if-is_none.false in let d = c.in_ok-hand.hand-is in cc in
    let taken = subst (λ (es : List NameEntry). HasTaken s.bytes s.tokens es i.rest.now c.args.without c.args.at c.in_ok-hand.field-0.hand c.take_function.new.names c.in_ok-hand.field-0.rest.now) c.replace-names.ensures.value c.in_ok-hand.ensures in
    let next = ap (λ (y : SourceAtHand). is_next_function (begins y.hand) c.args.at) c.self.view_is ∙ c.requires in
    hand_up s i.rest.now i.names i.hand i.hits c.self.invariant c.args.without c.args.at next c.take_function.new.names c.in_ok-hand.field-0.rest.now c.in_ok-hand.field-0.hand some taken

pub returns-clause-near : goal.returns-clause-near
returns-clause-near c = λ e.
    let i = c.self.inside in
    let s : CutSource = record { bytes = i.text.bytes.now; tokens = i.text.tokens.now; pieces = i.pieces.now } in
    let some : is_some c.in_ok-hand.field-0.hand ≡ true = let a = c.is_none.ensures in let b = c.if-is_none.false in let d = c.in_ok-hand.hand-is in cc in
    let taken = subst (λ (es : List NameEntry). HasTaken s.bytes s.tokens es i.rest.now c.args.without c.args.at c.in_ok-hand.field-0.hand c.take_function.new.names c.in_ok-hand.field-0.rest.now) c.replace-names.ensures.value c.in_ok-hand.ensures in
    let next = ap (λ (y : SourceAtHand). is_next_function (begins y.hand) c.args.at) c.self.view_is ∙ c.requires in
    near_up s i.rest.now i.names i.hand i.hits c.self.invariant c.args.without c.args.at next c.take_function.new.names c.in_ok-hand.field-0.rest.now c.in_ok-hand.field-0.hand some taken
