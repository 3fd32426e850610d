use Rattle.std.proofs.Common.{sym, ◌∙◌, refl, arith}
use Rattle.stk_walk_values.proofs.Replacing.{replaced_none, replaced_some, kept_made}
use Rattle.stk_walk_values.proofs.operators.replaced.Goals as goal

pub replaced_test-requires : goal.replaced_test-requires
replaced_test-requires g c = kept_made (g.V.Values.made c.args.values.now) c.in-Some.found c.args.x.now c.args.y.now c.kept_operand-operand.result c.kept_operand-operand.ensures c.requires.first_left c.requires.first_right c.requires.second_left c.requires.second_right

pub returns-in-None-clause-value : goal.returns-in-None-clause-value
returns-in-None-clause-value g c = λ m ty r k j p q served is hx hy. replaced_none (g.V.Values.shows c.args.values.now m) ty c.args.op r p q (sym c.in-None.is ∙ is)

pub returns-in_ok-test-in-Some-clause-value : goal.returns-in_ok-test-in-Some-clause-value
returns-in_ok-test-in-Some-clause-value g c = λ m ty r k j p q served is hx hy.
    replaced_some (g.V.Values.shows c.args.values.now m) (g.V.Values.shows c.replaced_test.new.values m) ty c.args.op r k j p q c.in-Some.found c.args.x.now c.args.y.now c.kept_operand-operand.result c.in_ok-test-in-Some.test
    (sym c.in-Some.is ∙ is) c.kept_operand-operand.ensures hx hy (λ z hz. c.in_ok-test-in-Some.ensures.value m z served hz)

pub returns-in-None-clause-charge : goal.returns-in-None-clause-charge
returns-in-None-clause-charge g c = rw c.in-None.is (omega arith)

pub returns-in_ok-test-in-Some-clause-charge : goal.returns-in_ok-test-in-Some-clause-charge
returns-in_ok-test-in-Some-clause-charge g c = rw c.in-Some.is c.in_ok-test-in-Some.ensures.charge

pub returns-in-None-clause-seen : goal.returns-in-None-clause-seen
returns-in-None-clause-seen g c = rw c.in-None.is refl

pub returns-in_ok-test-in-Some-clause-seen : goal.returns-in_ok-test-in-Some-clause-seen
returns-in_ok-test-in-Some-clause-seen g c = rw c.in-Some.is refl
