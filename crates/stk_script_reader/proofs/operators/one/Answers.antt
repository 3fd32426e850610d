use Rattle.std.proofs.Common.{subst}
use Rattle.stk_script_reader.specs.Made.{IsOne}
use Rattle.stk_script_reader.proofs.Kept.{term_kept}
use Rattle.stk_script_reader.proofs.Meant.{one_meant}
use Rattle.stk_script_reader.proofs.operators.one.Goals as goal

pub returns-clause-made : goal.returns-clause-made
returns-clause-made c = λ names e t.
    let s = c.single.new.terms in
    let m = c.in_ok-made in
    one_meant s m.ensures.sound names c.args.op e c.args.a.0 m.made.0 (term_kept c.args.terms.now s m.ensures.keeps names e c.args.a.0 t) (subst (λ o. IsOne s o c.args.a.0 m.made.0) c.unary_term.ensures m.ensures.made)
