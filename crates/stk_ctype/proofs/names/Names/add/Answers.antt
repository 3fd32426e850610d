use Rattle.std.proofs.Common.{rules, ◌≡◌, ◌++◌, ◌∷◌, [], subst, sym}
use Rattle.stk_ctype.specs.Structs.{structs_of}
use Rattle.stk_ctype.specs.Sound.{Keeps}
use Rattle.stk_ctype.specs.Facts.{AreFactsOf}
use Rattle.stk_ctype.proofs.Staying.{added_keeps}
use Rattle.stk_ctype.proofs.names.Names.add.Goals as goal

pub returns-clause-keeps : goal.returns-clause-keeps
returns-clause-keeps c =
    let noted : AreFactsOf c.note.new.self (c.args.self.now ++ c.args.entry ∷ []) = search rules in
    let is : c.push.new.self.items ≡ c.args.self.now ++ c.args.entry ∷ [] = search rules in
    subst (λ es. Keeps (structs_of c.args.self.now) (structs_of es)) (sym is) (added_keeps c.note.new.self c.args.self.now c.args.entry noted)
