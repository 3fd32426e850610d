use Rattle.std.proofs.Common.{◌≡◌, ◌++◌, drop}
use Rattle.stk_tree.specs.Tokens.{texts}
use Rattle.stk_tree_calls.proofs.punctuators.put_texts.Given as goal

abbrev pub invariant-loop-part : goal.invariant-loop-part
invariant-loop-part l = l.out.items ++ texts (drop l.part-index l.parts) ≡ l.initial.out.items ++ texts l.parts
