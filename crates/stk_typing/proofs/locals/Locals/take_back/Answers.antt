use Rattle.stk_typing.proofs.Found.{popped_place}
use Rattle.stk_typing.proofs.locals.Locals.take_back.Goals as goal

pub invariant_of-self : goal.invariant_of-self
invariant_of-self c = popped_place c.self.inside.places _ c.self.inside.list.items c.pop.new.self.items c.in-Some.local _ c.as_slice.ensures c.in-Some.ensures.items c.self.invariant c.pop-in-Some.ensures
