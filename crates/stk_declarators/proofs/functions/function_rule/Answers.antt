use Rattle.std.proofs.Common.{◌≡◌, ◌∙◌, ap, map, false, List}
use Rattle.stk_ctype.specs.declared.ctype.CType.{CType}
use Rattle.stk_ctype.specs.Types.{function_type, signature, type_of, row_of}
use Rattle.stk_type_rules.specs.Facts.{Fact}
use Rattle.stk_declarators.proofs.Rows.{function_sound}
use Rattle.stk_declarators.proofs.functions.function_rule.Goals as goal

pub returns-clause-sound : goal.returns-clause-sound
returns-clause-sound c =
    let ps = c.args.params.types.items in
    let owned = ap function_type c.in_ok-new.ensures ∙ ap (λ (xs : List CType). function_type (signature (type_of c.args.given) (row_of (map type_of xs)) c.args.more false)) c.from_vec.ensures in
    function_sound _ c.args.given ps c.args.more false _ (ap (λ (f : Fact). f.ty) c.declares.ensures ∙ owned) c.requires.given c.requires.params
