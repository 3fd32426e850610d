-- The keys of a function whose tree is typed have the kinds that their forms say.
use Rattle.stk_tree.specs.Syntax.{FunctionTree}
use Rattle.stk_numbers.specs.declared.conditions.Kinds.{Kinds}
use Rattle.stk_meaning.specs.Typings.{Typing}
use Rattle.stk_meaning.specs.Keys.{keys_of, setting_of}
use Rattle.stk_run_laws.specs.TypedTree.{IsTypedTree}
use Rattle.stk_kinded.specs.Keys.{HaveKeyKinds}

-- whichever kinds of conditions are taken out
abbrev pub KeysHaveTheirKinds : Type 0
KeysHaveTheirKinds = (ty : Typing) (without : Kinds) (f : FunctionTree) → IsTypedTree ty without f → HaveKeyKinds (setting_of ty without f) (keys_of ty without f)
