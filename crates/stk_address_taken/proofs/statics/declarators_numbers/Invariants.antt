use Rattle.std.proofs.Common.{◌≡◌, ◌++◌, drop, map}
use Rattle.stk_tree.specs.View.{view_declarator, declarators}
use Rattle.stk_address_taken.specs.Statics.{declarators_numbers}
use Rattle.stk_address_taken.proofs.statics.declarators_numbers.Given as goal

abbrev pub invariant-loop-d : goal.invariant-loop-d
invariant-loop-d l = l.out.items ++ declarators_numbers (declarators (map view_declarator (drop l.d-index l.list))) ≡ l.initial.out.items ++ declarators_numbers (declarators (map view_declarator l.list))
