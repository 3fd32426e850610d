use Rattle.std.proofs.Common.{◌≤◌, ◌+◌, ◌%◌, ◌/◌, ◌^◌, refl, sym, ◌∙◌, arith}
use Rattle.stk_terms.specs.declared.term.TermOp.TheVariants.{Extract}
use Rattle.stk_terms.specs.Values.{width_at, number_at}
use Rattle.stk_rewrite.specs.declared.right.Right.TheVariants.{One}
use Rattle.stk_rewrite.proofs.Leaves.{via}
use Rattle.stk_terms.proofs.Reading.{most}
use Rattle.stk_rewrite.proofs.Values as v
use Rattle.stk_rewrite.proofs.cuts.extract.Goals as goal

pub overflow_add-from : goal.overflow_add-from
overflow_add-from c = let s = c.args.terms.now in
    let h : c.in-Some-cut.from + width_at s c.args.a.0 ≤ width_at s c.in-Some-cut.x.0 = c.in-Some-cut.ensures.within in
    let m : width_at s c.in-Some-cut.x.0 ≤ 128 = most s c.requires.sound c.in-Some-cut.x.0 in
    omega (arith, h, m, c.requires.within)

pub returns-in-Some-cut : goal.returns-in-Some-cut
returns-in-Some-cut c = let s = c.args.terms.now in let a = c.args.a in let x = c.in-Some-cut.x in let p = c.in-Some-cut.ensures in
    via s (One (Extract (c.in-Some-cut.from + c.args.low) c.args.size) x) (One (Extract c.args.low c.args.size) a) c.cut_out.result c.cut_out.ensures refl
    (λ r h. v.cut_twice (number_at s r x.0) c.in-Some-cut.from (width_at s a.0) c.args.low c.args.size c.requires.within ∙ (λ j. sym (p.value r) j / 2 ^ c.args.low % 2 ^ c.args.size))
    (omega arith)
    (λ d l k. p.reached d l k)
