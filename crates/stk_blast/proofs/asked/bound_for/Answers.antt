use Rattle.std.proofs.Common.{length, sym, ap, subst, ◌∙◌}
use Rattle.stk_terms.specs.Terms.{term_at}
use Rattle.stk_terms.specs.Fitting.{AreBelow}
use Rattle.stk_terms.specs.Values.{arg_at, widths_of}
use Rattle.stk_terms.specs.Cost.{bound}
use Rattle.stk_terms.proofs.Reading.{there}
use Rattle.stk_blast.proofs.Arguments.{args_below}
use Rattle.stk_blast.proofs.asked.bound_for.Goals as goal

pub width_of-requires : goal.width_of-requires
width_of-requires c =
    let s = c.args.terms.now in
    let id = c.args.id.0 in
    subst (AreBelow (length s.terms)) (sym (c.args-args.ensures (term_at s id) (there s c.count.ensures.sound id c.requires))) (args_below s c.count.ensures.sound id c.requires)

pub width_of-requires-2 : goal.width_of-requires-2
width_of-requires-2 c =
    let s = c.args.terms.now in
    let id = c.args.id.0 in
    subst (AreBelow (length s.terms)) (sym (c.args-args.ensures (term_at s id) (there s c.count.ensures.sound id c.requires))) (args_below s c.count.ensures.sound id c.requires)

pub returns : goal.returns
returns c =
    let s = c.args.terms.now in
    let id = c.args.id.0 in
    let stands = there s c.count.ensures.sound id c.requires in
    let op = c.op.ensures (term_at s id) stands in
    let args = c.args-args.ensures (term_at s id) stands in
    let first = c.width_of.ensures ∙ ap (λ l. arg_at 0 (widths_of s) l 0) args in
    let second = c.width_of-2.ensures ∙ ap (λ l. arg_at 0 (widths_of s) l 1) args in
    c.bound_by.ensures ∙ (λ j. bound (op j) (first j) (second j))
