use Rattle.std.proofs.Common.{◌≡◌, ◌++◌, ◌∷◌, [], rules}
use Rattle.stk_declare.proofs.Naming.{pushed}
use Rattle.stk_declare.proofs.members.Members.push.Goals as goal

pub invariant_of-self-2 : goal.invariant_of-self-2
invariant_of-self-2 c =
    let grown : c.push-2.new.self.items ≡ c.self.inside.list.items ++ record { name = c.args.name.now; ty = c.args.ty } ∷ [] = search rules in
    pushed c.self.inside.places c.push.new.self c.self.inside.list.items c.push-2.new.self.items (record { name = c.args.name.now; ty = c.args.ty }) c.args.name.now c.len-place.result (search rules) (search rules) grown c.self.invariant c.in_ok-push.ensures.added
