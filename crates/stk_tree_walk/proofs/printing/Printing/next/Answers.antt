use Rattle.std.proofs.Common.{◌++◌, Some, None, ap, sym, ◌∙◌}
use Rattle.stk_tree_walk.specs.Waiting.{given, left_of}
use Rattle.stk_tree_walk.proofs.Piling.{lighter, taken}
use Rattle.stk_tree_walk.proofs.printing.Printing.next.Goals as goal

pub returns-in-Some-2 : goal.returns-in-Some-2
returns-in-Some-2 c =
    sym c.self.view_is ∙ taken c.loop-item.self-inside.waiting.items c.self.inside.waiting.items c.pop.new.self.items c.open.new.out.items c.in-Some.item c.in_ok-token.field-0 c.loop-item.invariant c.in-Some.ensures.items c.in_ok-token.ensures.left ∙ ap (λ o. given o ++ left_of c.open.new.out.items) c.in-Some-2.is

pub loop-item-smaller : goal.loop-item-smaller
loop-item-smaller c = lighter c.loop-item.self-inside.waiting.items c.pop.new.self.items c.open.new.out.items c.in-Some.item c.in-Some.ensures.items (c.in_ok-token.ensures.falls c.in-None.is)

pub loop-item-preserved : goal.loop-item-preserved
loop-item-preserved c =
    sym (taken c.loop-item.self-inside.waiting.items c.self.inside.waiting.items c.pop.new.self.items c.open.new.out.items c.in-Some.item c.in_ok-token.field-0 c.loop-item.invariant c.in-Some.ensures.items c.in_ok-token.ensures.left ∙ ap (λ o. given o ++ left_of c.open.new.out.items) c.in-None.is)
