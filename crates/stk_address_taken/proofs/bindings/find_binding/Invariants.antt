use Rattle.std.proofs.Common.{◌≡◌, drop}
use Rattle.stk_ctype.specs.Names.{later_of}
use Rattle.stk_address_taken.specs.Bindings.{find_binding}
use Rattle.stk_address_taken.proofs.bindings.find_binding.Given as goal

abbrev pub invariant-loop-binding : goal.invariant-loop-binding
invariant-loop-binding l = later_of l.found (find_binding l.bytes l.name (drop l.binding-index l.bindings)) ≡ find_binding l.bytes l.name l.bindings
