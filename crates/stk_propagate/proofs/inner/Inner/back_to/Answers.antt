use Rattle.std.proofs.Common.{◌≡◌, arith}
use Rattle.stk_propagate.specs.Linked.{trailed}
use Rattle.stk_propagate.proofs.Fits.{fits_cut}
use Rattle.stk_propagate.proofs.Steps.{linked_vars}
use Rattle.stk_propagate.proofs.inner.Inner.back_to.Goals as goal

pub returns-clause-linked : goal.returns-clause-linked
returns-clause-linked c =
    let l = linked_vars c.args.self.now c.cut_to.new.self c.cut_to.ensures.vars c.requires.linked in
    record { sized = record { many = l.sized.many; numbered = l.sized.numbered; few = l.sized.few }; linked = l.linked; spare = l.spare }

pub returns-clause-fits : goal.returns-clause-fits
returns-clause-fits c = λ cs f.
    let e = c.cut_to.ensures in
    let h : c.min-self.result ≡ c.args.count = omega (arith, c.min-self.ensures, f.ahead c.args.count c.requires.assumed) in
    fits_cut (trailed c.args.self.now) c.cut_to.new.self cs c.args.count c.min-self.result f c.requires.assumed h e.vars e.literals e.reasons
