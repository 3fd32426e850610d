-- How many keys and input bits a function has, beside its weight.
use Rattle.std.specs.Prelude.{◌≤◌, ◌<◌, ◌^◌, length}
use Rattle.stk_tree.specs.Syntax.{FunctionTree}
use Rattle.stk_numbers.specs.declared.conditions.Kinds.{Kinds}
use Rattle.stk_meaning.specs.Typings.{Typing}
use Rattle.stk_meaning.specs.Keys.{keys_of, input_bits}
use Rattle.stk_meaning.specs.Weights.{weight, most_weight}

-- each key has a bit at least; all bits together are at most the weight; and where the weight is one of a function that
-- is searched, the place of a key is a number of 32 bits
pub record KeysAreWithinWeight : Type 0 where
  pub few : (ty : Typing) (without : Kinds) (f : FunctionTree) → length (keys_of ty without f) ≤ input_bits (keys_of ty without f)
  pub bits : (ty : Typing) (without : Kinds) (f : FunctionTree) → input_bits (keys_of ty without f) ≤ weight ty without f
  pub places : (ty : Typing) (without : Kinds) (f : FunctionTree) → weight ty without f ≤ most_weight → length (keys_of ty without f) < 2 ^ 32
