use Rattle.stk_rewrite.proofs.Built.{last_can}
use Rattle.stk_rewrite.proofs.building.last.Goals as goal

pub double-requires-clause-can : goal.double-requires-clause-can
double-requires-clause-can c = last_can c.args.terms.now c.constant.new.terms c.requires.sound c.constant.ensures.keeps c.args.op c.args.a c.in_ok-k.k c.args.width c.args.number c.requires.can c.in_ok-k.ensures.built c.in_ok-k.ensures.stands
