use Rattle.std.proofs.Common.{◌≡◌, Ok, subst}
use Rattle.stk_tree.specs.declared.unit.Unit.{Unit as UnitCode}
use Rattle.stk_tree.specs.View.{view_unit}
use Rattle.stk_declare.specs.Answers.{Answers}
use Rattle.stk_declare.specs.Declaring.{unit_declared}
use Rattle.stk_accept.proofs.Answered.{left_by_answer}
use Rattle.stk_accept.proofs.accepting.accept.Goals as goal

pub returns-in-Ok-clause-answered : goal.returns-in-Ok-clause-answered
returns-in-Ok-clause-answered c =
    let now = c.declare.new.names in
    let given = subst (λ (x : UnitCode). Answers (λ es u. now ≡ es) (unit_declared c.args.bytes.now c.args.mark c.args.names.now (view_unit x)) (Ok tt)) c.get.ensures c.in-Ok.ensures.gives in
    let left = left_by_answer (unit_declared c.args.bytes.now c.args.mark c.args.names.now (view_unit c.in-Some.unit)) now tt given in
    record { tree = rw c.in-Some.is at c.in_ok-unit.ensures.found; facts = left.0; declared = left.1 }
