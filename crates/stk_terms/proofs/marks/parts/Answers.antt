use Rattle.std.proofs.Common.{◌≡◌, ◌+◌, ◌-◌, ◌∙◌, sym, subst, arith}
use Rattle.std.proofs.lemmas.List.{take_at}
use Rattle.stk_terms.specs.Keys.{stored}
use Rattle.stk_terms.specs.Parts.{AreMarked}
use Rattle.stk_terms.proofs.Marking.{begun, can_mark, one_down, all_marked, in_terms}
use Rattle.stk_terms.proofs.marks.parts.Goals as goal

pub loop-k-init : goal.loop-k-init
loop-k-init c =
    let e : c.args.place + 1 ≡ c.args.place + 1 - 0 = omega arith in
    let s = stored c.args.inputs.now c.args.nodes.now in
    subst (λ n. AreMarked s c.args.place n c.in_ok-marks.marks.items) e (begun s c.requires.sound c.args.place (in_terms c.args.nodes.now c.args.place c.requires.place) c.in_ok-marks.marks.items c.in_ok-marks.ensures)

pub step-requires-clause-under : goal.step-requires-clause-under
step-requires-clause-under c =
    let s = stored c.args.inputs.now c.args.nodes.now in
    can_mark s c.requires.sound c.args.place (in_terms c.args.nodes.now c.args.place c.requires.place) c.loop-k.k c.deref_mut.result.now c.loop-k-test.true (subst (AreMarked s c.args.place (c.args.place + 1 - c.loop-k.k)) (sym c.deref_mut.ensures.value) c.loop-k.invariant)

pub loop-k-preserved : goal.loop-k-preserved
loop-k-preserved c =
    let s = stored c.args.inputs.now c.args.nodes.now in
    subst (AreMarked s c.args.place (c.args.place + 1 - (c.loop-k.k + 1))) (sym (take_at c.step.new.marks _ c.loop-k.marks.len (c.step.auto.marks ∙ c.deref_mut.ensures.len)))
    (one_down s c.requires.sound c.args.place (in_terms c.args.nodes.now c.args.place c.requires.place) c.loop-k.k c.deref_mut.result.now c.step.new.marks c.loop-k-test.true (subst (AreMarked s c.args.place (c.args.place + 1 - c.loop-k.k)) (sym c.deref_mut.ensures.value) c.loop-k.invariant) c.step.ensures)

pub returns-clause-told : goal.returns-clause-told
returns-clause-told c = λ j h. all_marked (stored c.args.inputs.now c.args.nodes.now) c.requires.sound c.args.place (in_terms c.args.nodes.now c.args.place c.requires.place) c.loop-k.marks.items (subst (λ n. AreMarked (stored c.args.inputs.now c.args.nodes.now) c.args.place n c.loop-k.marks.items) (let e : c.args.place + 1 - c.loop-k.k ≡ 0 = omega arith in e) c.loop-k.invariant) j
