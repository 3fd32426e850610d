use Rattle.std.proofs.Common.{◌∙◌, ap, sym, subst}
use Rattle.std.specs.Prelude.{IfSome}
use Rattle.stk_ctype.specs.Names.{tag_of}
use Rattle.stk_ctype.specs.Structs.{structs_of}
use Rattle.stk_ctype.specs.Sound.{IsSoundTag}
use Rattle.stk_ctype.proofs.Lookups.{tag_words-last}
use Rattle.stk_ctype.proofs.Staying.{tag_sound}
use Rattle.stk_ctype.proofs.names.Names.tag.Goals as goal

pub returns-clause-value : goal.returns-clause-value
returns-clause-value c = c.get.ensures _ c.self.invariant.0.tags ∙ tag_words-last 0 c.args.tag.now c.self.inside.entries.items ∙ ap (tag_of c.args.tag.now) c.self.view_is

pub returns-clause-sound : goal.returns-clause-sound
returns-clause-sound c =
    let value = c.get.ensures _ c.self.invariant.0.tags ∙ tag_words-last 0 c.args.tag.now c.self.inside.entries.items ∙ ap (tag_of c.args.tag.now) c.self.view_is in
    let found = subst (λ es. IfSome (tag_of c.args.tag.now es) (IsSoundTag (structs_of es))) c.self.view_is (tag_sound c.self.inside.facts c.self.inside.entries.items c.self.invariant.0 c.args.tag.now) in
    subst (λ o. IfSome o (IsSoundTag (structs_of c.args.self.now))) (sym value) found
