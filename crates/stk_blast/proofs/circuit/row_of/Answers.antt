use Rattle.std.proofs.Common.{ℕ, ◌<◌, List, length, sym, ap, subst, ◌∙◌, arith}
use Rattle.std.specs.Prelude.{sum}
use Rattle.stk_gates.specs.Tables.{HasRoom, AddsWithin}
use Rattle.stk_terms.specs.declared.term.TermId.{TermId}
use Rattle.stk_terms.specs.Terms.{term_at, nth}
use Rattle.stk_terms.specs.Orders.{HasBefore}
use Rattle.stk_terms.proofs.Reading.{there}
use Rattle.stk_blast.specs.Inputs.{AreFirsts}
use Rattle.stk_blast.proofs.Parts.{operation_given}
use Rattle.stk_blast.proofs.circuit.row_of.Goals as goal

pub argument-x-requires-clause-before : goal.argument-x-requires-clause-before
argument-x-requires-clause-before c =
    let s = c.args.terms.now in
    let id = c.args.id.0 in
    let here = there s c.count-2.ensures.sound id c.requires.exists in
    subst (λ (args : List TermId). (j : ℕ) → j < length args → HasBefore c.args.order.now (length c.args.rows.now) (nth args j)) (sym (c.args-args.ensures (term_at s id) here)) c.requires.before

pub argument-y-requires-clause-before : goal.argument-y-requires-clause-before
argument-y-requires-clause-before c =
    let s = c.args.terms.now in
    let id = c.args.id.0 in
    let here = there s c.count-2.ensures.sound id c.requires.exists in
    subst (λ (args : List TermId). (j : ℕ) → j < length args → HasBefore c.args.order.now (length c.args.rows.now) (nth args j)) (sym (c.args-args.ensures (term_at s id) here)) c.requires.before

pub argument-z-requires-clause-before : goal.argument-z-requires-clause-before
argument-z-requires-clause-before c =
    let s = c.args.terms.now in
    let id = c.args.id.0 in
    let here = there s c.count-2.ensures.sound id c.requires.exists in
    subst (λ (args : List TermId). (j : ℕ) → j < length args → HasBefore c.args.order.now (length c.args.rows.now) (nth args j)) (sym (c.args-args.ensures (term_at s id) here)) c.requires.before

pub operate-requires : goal.operate-requires
operate-requires c =
    let s = c.args.terms.now in
    let id = c.args.id.0 in
    let h = c.requires.exists in
    let sound = c.count-2.ensures.sound in
    let here = there s sound id h in
    let o =
    operation_given s sound id h c.args.gates.now c.args.order.now c.args.rows.now c.args-args.result.now c.argument-x.result.now c.argument-y.result.now c.argument-z.result.now c.widths.result.now c.op.result
    c.widths.ensures (c.op.ensures (term_at s id) here) (c.args-args.ensures (term_at s id) here) c.requires.made c.argument-x.ensures.row c.argument-x.ensures.none c.argument-y.ensures.row c.argument-y.ensures.none c.argument-z.ensures.row c.argument-z.ensures.none in
    record {
      inputs = c.requires.inputs ∙ sym (ap sum c.widths.ensures);
      firsts = subst (λ l. AreFirsts l c.args.firsts.now) (sym c.widths.ensures) c.requires.firsts;
      few_inputs = omega (arith, ap sum c.widths.ensures);
      fit = o.fit;
      some = o.some;
      few = o.few;
      x = o.x_edges;
      y = o.y_edges;
      z = o.z_edges;
      room = subst (HasRoom c.args.gates.now) (sym o.charge) c.requires.room;
    }

pub returns-in_err-row-clause-adds : goal.returns-in_err-row-clause-adds
returns-in_err-row-clause-adds c =
    let s = c.args.terms.now in
    let id = c.args.id.0 in
    let h = c.requires.exists in
    let sound = c.count-2.ensures.sound in
    let here = there s sound id h in
    let o =
    operation_given s sound id h c.args.gates.now c.args.order.now c.args.rows.now c.args-args.result.now c.argument-x.result.now c.argument-y.result.now c.argument-z.result.now c.widths.result.now c.op.result
    c.widths.ensures (c.op.ensures (term_at s id) here) (c.args-args.ensures (term_at s id) here) c.requires.made c.argument-x.ensures.row c.argument-x.ensures.none c.argument-y.ensures.row c.argument-y.ensures.none c.argument-z.ensures.row c.argument-z.ensures.none in
    subst (AddsWithin c.args.gates.now c.operate.new.gates) o.charge c.operate.ensures.adds

pub returns-clause-adds : goal.returns-clause-adds
returns-clause-adds c =
    let s = c.args.terms.now in
    let id = c.args.id.0 in
    let h = c.requires.exists in
    let sound = c.count-2.ensures.sound in
    let here = there s sound id h in
    let o =
    operation_given s sound id h c.args.gates.now c.args.order.now c.args.rows.now c.args-args.result.now c.argument-x.result.now c.argument-y.result.now c.argument-z.result.now c.widths.result.now c.op.result
    c.widths.ensures (c.op.ensures (term_at s id) here) (c.args-args.ensures (term_at s id) here) c.requires.made c.argument-x.ensures.row c.argument-x.ensures.none c.argument-y.ensures.row c.argument-y.ensures.none c.argument-z.ensures.row c.argument-z.ensures.none in
    subst (AddsWithin c.args.gates.now c.operate.new.gates) o.charge c.operate.ensures.adds

pub returns-clause-row : goal.returns-clause-row
returns-clause-row c =
    let s = c.args.terms.now in
    let id = c.args.id.0 in
    let h = c.requires.exists in
    let sound = c.count-2.ensures.sound in
    let here = there s sound id h in
    let o =
    operation_given s sound id h c.args.gates.now c.args.order.now c.args.rows.now c.args-args.result.now c.argument-x.result.now c.argument-y.result.now c.argument-z.result.now c.widths.result.now c.op.result
    c.widths.ensures (c.op.ensures (term_at s id) here) (c.args-args.ensures (term_at s id) here) c.requires.made c.argument-x.ensures.row c.argument-x.ensures.none c.argument-y.ensures.row c.argument-y.ensures.none c.argument-z.ensures.row c.argument-z.ensures.none in
    o.made c.operate.new.gates c.in_ok-row.row c.operate.ensures.extends c.in_ok-row.ensures.length c.in_ok-row.ensures.edges c.in_ok-row.ensures.value
