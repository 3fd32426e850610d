use Rattle.stk_function_types.proofs.Among.{found_sound}
use Rattle.stk_function_types.proofs.function_types.FunctionTypes.value_type.Goals as goal

pub returns-in-Value-clause-sound : goal.returns-in-Value-clause-sound
returns-in-Value-clause-sound c = let s = c.self.invariant.1 in let l = c.in-Some.ensures.lookup.1 in let k = c.in-Some.ensures.lookup.3 in rw (← c.self.view_is) (found_sound _ _ _ _ _ l k.0 c.deref.ensures.value s)
