use Rattle.std.proofs.Common.{◌≡◌, Some}
use Rattle.stk_ctype.specs.Types.{type_of}
use Rattle.stk_ctype.specs.Structs.{structs_of, size_of}
use Rattle.stk_ctype.specs.Sound.{IsSound}
use Rattle.stk_ctype.proofs.tests.chain_has_size.Given as goal

abbrev pub invariant-loop : goal.invariant-loop
invariant-loop l = IsSound (structs_of l.fn.names) (type_of l.ty) × (size_of (structs_of l.fn.names) (type_of l.ty) ≡ Some 4)
