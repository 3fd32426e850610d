use Rattle.std.proofs.Common.{◌≡◌, true, sym, ◌∙◌, arith}
use Rattle.stk_walk.specs.Validity.{is_pair}
use Rattle.stk_walk.proofs.validity.apart_where.Goals as goal

pub returns-clause-charge : goal.returns-clause-charge
returns-clause-charge g c =
    let is : is_pair c.args.x.now.object c.args.y.now.object ≡ true = sym c.is_pair.ensures ∙ c.if-not-is_pair.false in
    rw is (omega (arith, c.in_ok-test.ensures.charge, c.in_ok-both.ensures.charge))
