use Rattle.std.proofs.Common.{◌≡◌, ◌++◌, ◌∷◌, [], rules}
use Rattle.stk_typing.proofs.Found.{pushed_place}
use Rattle.stk_typing.proofs.locals.Locals.push.Goals as goal

pub invariant_of-self-2 : goal.invariant_of-self-2
invariant_of-self-2 c =
    let grown : c.push-2.new.self.items ≡ c.self.inside.list.items ++ c.args.local ∷ [] = search rules in
    pushed_place c.self.inside.places c.push.new.self c.self.inside.list.items c.push-2.new.self.items c.args.local c.as_slice.result.now c.len-place.result (search rules) (search rules) grown c.self.invariant c.in_ok-push.ensures.added
