use Rattle.std.proofs.Common.{ap, ◌∙◌, ◌≡◌}
use Rattle.std.specs.Option.{is_some}
use Rattle.stk_ctype.specs.Index.{last_meaning}
use Rattle.stk_declare.specs.Members.{member_words}
use Rattle.stk_declare.specs.Structs.{has_member}
use Rattle.stk_declare.proofs.Naming.{found}
use Rattle.stk_declare.proofs.members.Members.has.Goals as goal

pub returns : goal.returns
returns c =
    let got : c.get.result ≡ last_meaning c.args.name.now (member_words 0 c.self.inside.list.items) = c.get.ensures (member_words 0 c.self.inside.list.items) c.self.invariant in
    c.is_some.ensures ∙ ap is_some got ∙ found c.args.name.now 0 c.self.inside.list.items ∙ ap (has_member c.args.name.now) c.self.view_is
