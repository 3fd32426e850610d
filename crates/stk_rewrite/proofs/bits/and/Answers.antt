use Rattle.std.proofs.Common.{◌≡◌, sym, ◌∙◌, arith, bit_and}
use Rattle.std.proofs.lemmas.Nat.{and_comm}
use Rattle.stk_terms.specs.declared.term.TermOp.TheVariants.{And}
use Rattle.stk_terms.specs.Values.{width_at, number_at}
use Rattle.stk_rewrite.specs.declared.right.Right.TheVariants.{Two, Last}
use Rattle.stk_rewrite.proofs.Leaves.{via}
use Rattle.stk_rewrite.proofs.bits.and.Goals as goal

pub returns-in-None-number : goal.returns-in-None-number
returns-in-None-number c = let s = c.args.terms.now in let a = c.args.a in let b = c.args.b in
    via s (Last And b c.width.result c.in-Some.x) (Two And a b) c.last_and.result c.last_and.ensures (sym c.requires.pair.alike)
    (λ r h. and_comm (number_at s r b.0) c.in-Some.x ∙ (λ j. bit_and (sym (c.in-Some.ensures.value r) j) (number_at s r b.0)))
    (let e : width_at s a.0 ≡ width_at s b.0 = c.requires.pair.alike in omega (arith, e))
    (λ d l k. k.1)
