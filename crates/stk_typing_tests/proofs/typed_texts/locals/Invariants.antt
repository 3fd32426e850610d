use Rattle.std.proofs.Common.{map}
use Rattle.stk_ctype.specs.Structs.{Structs}
use Rattle.stk_typing.specs.Locals.{AreSoundLocals, local_of}
use Rattle.stk_typing_tests.proofs.typed_texts.locals.Given as goal

abbrev pub invariant-loop-i : goal.invariant-loop-i
invariant-loop-i l = (structs : Structs) → AreSoundLocals structs (map local_of l.locals)
