use Rattle.std.proofs.Common.{inr, sym, subst, rules}
use Rattle.stk_tree.specs.View.{view_unit}
use Rattle.stk_typed.specs.declared.untyped.Untyped.{Untyped}
use Rattle.stk_records.specs.declared.line.Cause.{Cause}
use Rattle.stk_units.specs.Visiting.{HasLeftUntyped}
use Rattle.stk_units.proofs.visiting.visit_untyped.Goals as goal

pub returns-in_ok-cause-in-Rule : goal.returns-in_ok-cause-in-Rule
returns-in_ok-cause-in-Rule g c =
    let bytes = c.args.unit.now.input.now in
    let tokens = c.args.unit.now.tokens.now in
    inr
    (subst (λ (x : Untyped). HasLeftUntyped g.V.UnitVisitor.leaves bytes tokens (view_unit c.args.tree.now) x c.leave_out.result c.args.visitor.now c.leave_out.new.self c.args.out.now c.leave_out.new.out c.args.asked.now c.leave_out.new.asked) (sym c.in-Rule.is)
    (subst (λ (k : Cause). g.V.UnitVisitor.leaves bytes tokens k c.leave_out.result c.args.visitor.now c.leave_out.new.self c.args.out.now c.leave_out.new.out c.args.asked.now c.leave_out.new.asked) c.in_ok-cause-in-Rule.ensures c.leave_out.ensures))

pub returns-in-Nodes : goal.returns-in-Nodes
returns-in-Nodes g c =
    let bytes = c.args.unit.now.input.now in
    let tokens = c.args.unit.now.tokens.now in
    inr (subst (λ (x : Untyped). HasLeftUntyped g.V.UnitVisitor.leaves bytes tokens (view_unit c.args.tree.now) x c.leave_out-in-Nodes.result c.args.visitor.now c.leave_out-in-Nodes.new.self c.args.out.now c.leave_out-in-Nodes.new.out c.args.asked.now c.leave_out-in-Nodes.new.asked) (sym c.in-Nodes.is) c.leave_out-in-Nodes.ensures)
