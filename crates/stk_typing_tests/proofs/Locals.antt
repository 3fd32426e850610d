-- Locals one by one; no names, and no facts.
use Rattle.std.proofs.Common.{ℕ, ◌≡◌, List, [], ◌∷◌, ◌++◌, map, sym, ap, ◌∙◌, subst, refl, Some, arith}
use Rattle.std.proofs.lemmas.List.{map-append}
use Rattle.stk_ctype.specs.declared.ctype.CType.{CType}
use Rattle.stk_ctype.specs.declared.ctype.CType.TheVariants as ctype
use Rattle.stk_ctype.specs.declared.kind.IntKind.TheVariants as kind
use Rattle.stk_ctype.specs.Types.{TypeTree, integer_type, array_type, type_of}
use Rattle.stk_ctype.specs.Structs.{Structs}
use Rattle.stk_ctype.specs.Sound.{IsSound}
use Rattle.stk_type_rules.specs.Facts.{AreSoundFacts}
use Rattle.stk_typing.specs.declared.locals.LocalName.{LocalName}
use Rattle.stk_typing.specs.Locals.{Local, AreSoundLocals, local_of}

pub no_facts : (structs : Structs) → AreSoundFacts structs []
no_facts structs i = tt

pub ruleset nothing = no_facts

-- an array of three integers
pub three_sound : (structs : Structs) (t : CType) → t ≡ ctype.Array (integer_type kind.Int) (Some 3) → IsSound structs (type_of t)
three_sound structs t e =
    let view : type_of t ≡ array_type (integer_type kind.Int) (Some 3) = ap type_of e in
    subst (λ (u : TypeTree). IsSound structs u) (sym view) (tt, refl, omega arith, omega arith)
