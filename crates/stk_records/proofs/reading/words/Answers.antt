use Rattle.std.proofs.Common.{◌∷◌, length, map, ap, sym, ◌∙◌, subst, arith}
use Rattle.std.proofs.lemmas.List.{length-map}
use Rattle.std.proofs.lemmas.Bool.{true≢false}
use Rattle.std.specs.String.{string_bytes}
use Rattle.stk_records.specs.Words.{AreItems, no_more, then_item}
use Rattle.stk_records.proofs.Wholes.{goes_down, paired, shorter, some_word, none_left}
use Rattle.stk_records.proofs.reading.words.Goals as goal

pub returns-then-has_come-clause-bad : goal.returns-then-has_come-clause-bad
returns-then-has_come-clause-bad c o legal =
    let w = ap (map string_bytes) c.in-Some.ensures.cases.0 ∙ ap (λ t. t ∷ map string_bytes c.in-Some.left.now) (sym c.as_bytes.ensures.value) in
    let d = goes_down c.in-Some-item.ensures (subst (λ ws. AreItems c.items.seen ws o) w (c.items.invariant.0 o legal)) some_word in
    true≢false (sym c.if-has_come.true ∙ (c.has_come.ensures ∙ d.0))

pub items-smaller : goal.items-smaller
items-smaller c =
    let less = shorter c.in-Some-item.ensures.is in
    let one = length-map c.in-Some-item.behind.now string_bytes in
    let two = length-map c.in-Some.left.now string_bytes in
    let all = ap length c.in-Some.ensures.cases.0 in
    omega arith

pub items-preserved : goal.items-preserved
items-preserved c =
    let w = ap (map string_bytes) c.in-Some.ensures.cases.0 ∙ ap (λ t. t ∷ map string_bytes c.in-Some.left.now) (sym c.as_bytes.ensures.value) in (
      (λ o legal. subst (λ s. AreItems s (map string_bytes c.in-Some-item.behind.now) o) (sym c.with_item-seen.ensures) (goes_down c.in-Some-item.ensures (subst (λ ws. AreItems c.items.seen ws o) w (c.items.invariant.0 o legal)) some_word).1),
      (λ o items. c.items.invariant.1 o (subst (λ ws. AreItems c.items.seen ws o) (sym w) (then_item c.in-Some-item.ensures.is (sym c.has_come.ensures ∙ c.if-has_come.false) (subst (λ s. AreItems s (map string_bytes c.in-Some-item.behind.now) o) c.with_item-seen.ensures items)))),
    )

pub returns-then-stand_together-clause-legal : goal.returns-then-stand_together-clause-legal
returns-then-stand_together-clause-legal c =
    c.items.invariant.1 c.options_of.result (subst (λ ws. AreItems c.items.seen (map string_bytes ws) c.options_of.result) (sym (none_left c.items.rest.now c.in_default.ensures.cases)) (no_more (sym c.stand_together.ensures ∙ c.if-stand_together.true) c.options_of.ensures))

pub returns-clause-bad : goal.returns-clause-bad
returns-clause-bad c o legal =
    let together = paired (ap (map string_bytes) (none_left c.items.rest.now c.in_default.ensures.cases)) (c.items.invariant.0 o legal) in
    true≢false (sym together ∙ (sym c.stand_together.ensures ∙ c.if-stand_together.false))
