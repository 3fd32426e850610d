use Rattle.std.proofs.Common.{◌≤◌, List, get_or, sym, subst}
use Rattle.stk_terms.specs.declared.term.TermNode.{TermNode}
use Rattle.stk_terms.proofs.Sized.{some, few}
use Rattle.stk_terms.proofs.table.Terms.width.Goals as goal

pub returns-clause-least : goal.returns-clause-least
returns-clause-least c = subst (λ (ns : List TermNode). 1 ≤ (get_or ns c.args.id.0 c.index-as_slice-id.result).width) (sym c.as_slice.ensures.keys) (some c.self.inside.inputs c.self.inside.nodes.keys c.args.self.now c.args.id.0 c.self.view_is c.self.invariant c.requires c.index-as_slice-id.result)

pub returns-clause-most : goal.returns-clause-most
returns-clause-most c = subst (λ (ns : List TermNode). (get_or ns c.args.id.0 c.index-as_slice-id.result).width ≤ 128) (sym c.as_slice.ensures.keys) (few c.self.inside.inputs c.self.inside.nodes.keys c.args.self.now c.args.id.0 c.self.view_is c.self.invariant c.requires c.index-as_slice-id.result)
