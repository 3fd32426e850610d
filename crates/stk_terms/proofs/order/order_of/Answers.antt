use Rattle.std.proofs.Common.{sym, subst}
use Rattle.stk_terms.specs.Orders.{AreParts}
use Rattle.stk_terms.proofs.Collecting.{in_order, has_own}
use Rattle.stk_terms.proofs.order.order_of.Goals as goal

pub returns-clause-order : goal.returns-clause-order
returns-clause-order c = in_order c.args.terms.now c.count-count.ensures.sound c.args.id.0 c.requires c.reverse.new.self.items (subst (AreParts c.args.terms.now c.args.id.0) (sym c.reverse.ensures.items) c.in_ok-places.ensures)

pub returns-clause-has : goal.returns-clause-has
returns-clause-has c = has_own c.args.terms.now c.count-count.ensures.sound c.args.id.0 c.requires c.reverse.new.self.items (subst (AreParts c.args.terms.now c.args.id.0) (sym c.reverse.ensures.items) c.in_ok-places.ensures)
