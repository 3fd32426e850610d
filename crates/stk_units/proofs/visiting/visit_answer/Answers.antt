use Rattle.std.proofs.Common.{List, inl, sym, subst, rules}
use Rattle.stk_tree.specs.declared.unit.Unit.{Unit}
use Rattle.stk_tree.specs.View.{view_unit}
use Rattle.stk_accept.specs.declared.accepting.Accepted.{Accepted}
use Rattle.stk_accept.specs.Accepting.{Accepts, IsAnswered}
use Rattle.stk_units.proofs.Visits.{refusal_visited}
use Rattle.stk_units.proofs.visiting.visit_answer.Goals as goal

pub returns-in_ok-cause-in-Refused : goal.returns-in_ok-cause-in-Refused
returns-in_ok-cause-in-Refused g c = λ es h.
    let unit = c.args.unit.now in
    let refused = rw c.in-Refused.is at h in
    refusal_visited g.V.UnitVisitor.leaves g.V.UnitVisitor.judges c.leave_out.result c.args.visitor.now c.leave_out.new.self c.args.out.now c.leave_out.new.out c.args.asked.now c.leave_out.new.asked unit.input.now unit.without unit.mark es c.args.names.now unit.body unit.tokens.now
    c.in_ok-cause-in-Refused.cause c.in-Refused.refusal refused c.in_ok-cause-in-Refused.ensures c.leave_out.ensures

pub returns-in-Tree : goal.returns-in-Tree
returns-in-Tree g c = λ es h.
    let unit = c.args.unit.now in
    let found = subst (λ (a : Accepted). IsAnswered unit.input.now unit.mark es unit.tokens.now unit.body a c.args.names.now) c.in-Tree.is h in
    c.visit_tree.ensures es (subst (λ (x : Unit). Accepts unit.input.now unit.mark es unit.tokens.now (view_unit x) c.args.names.now) (sym c.get.ensures) found)
