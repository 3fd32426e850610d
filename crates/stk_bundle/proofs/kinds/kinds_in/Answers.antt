use Rattle.std.proofs.Common.{List, sym, ◌∙◌, ap, subst}
use Rattle.stk_numbers.specs.declared.conditions.UbKind.{UbKind}
use Rattle.stk_bundle.specs.Kinds.{is_listed, AreKinds}
use Rattle.stk_bundle.proofs.KindTexts.{NamesFollow, no_name, named_before, last_name, one_name}
use Rattle.stk_bundle.proofs.kinds.kinds_in.Goals as goal

pub returns-in_default-clause-bad : goal.returns-in_default-clause-bad
returns-in_default-clause-bad c is ks a =
    no_name c.args.text.now c.names.left.now c.cut_at.result.0.now c.cut_at.result.1.now c.names.kinds.items c.names.invariant c.cut_at.ensures c.in_default.ensures ks a

pub returns-then-is_listed-clause-bad : goal.returns-then-is_listed-clause-bad
returns-then-is_listed-clause-bad c is ks a =
    named_before c.args.text.now c.names.left.now c.cut_at.result.0.now c.cut_at.result.1.now c.names.kinds.items c.in-Some.kind c.names.invariant c.cut_at.ensures c.in-Some.ensures
    (ap (λ (js : List UbKind). is_listed js c.in-Some.kind) (sym c.deref.ensures.value) ∙ (sym c.is_listed.ensures ∙ c.if-is_listed.true)) ks a

pub returns-in-None-clause-ok : goal.returns-in-None-clause-ok
returns-in-None-clause-ok c =
    let new = ap (λ (js : List UbKind). is_listed js c.in-Some.kind) (sym c.deref.ensures.value) ∙ (sym c.is_listed.ensures ∙ c.if-is_listed.false) in
    subst (AreKinds c.args.text.now) (sym (c.from_vec-in-None.ensures ∙ c.in_ok-push.ensures.items))
    (last_name c.args.text.now c.names.left.now c.cut_at.result.0.now c.cut_at.result.1.now c.names.kinds.items c.in-Some.kind c.names.invariant c.cut_at.ensures c.in-Some.ensures new c.in-None.ensures.cases)

pub names-preserved : goal.names-preserved
names-preserved c =
    let new = ap (λ (js : List UbKind). is_listed js c.in-Some.kind) (sym c.deref.ensures.value) ∙ (sym c.is_listed.ensures ∙ c.if-is_listed.false) in
    subst (NamesFollow c.args.text.now c.in-Some-split_first.rest.now) (sym c.in_ok-push.ensures.items)
    (one_name c.args.text.now c.names.left.now c.cut_at.result.0.now c.cut_at.result.1.now c.in-Some-split_first.rest.now c.in-Some-split_first.field-0-0.now c.names.kinds.items c.in-Some.kind c.names.invariant c.cut_at.ensures c.in-Some.ensures new c.in-Some-split_first.ensures.cases.0)
