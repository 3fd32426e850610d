-- What is known of a function's input maps that have all been run.
use Rattle.std.specs.Prelude.{◌≡◌, ◌≤◌, ◌^◌}
use Rattle.stk_tree.specs.Syntax.{FunctionTree}
use Rattle.stk_numbers.specs.declared.conditions.Kinds.{Kinds}
use Rattle.stk_meaning.specs.Typings.{Typing}
use Rattle.stk_meaning.specs.Keys.{keys_of}
use Rattle.stk_hits.specs.InputMaps.{bits_in}
use Rattle.stk_hits.specs.PathSubjects.{kinds_of}
use Rattle.stk_hits.specs.PathTables.{IsTableOf}
use Rattle.stk_judge.specs.declared.tried.TriedMaps.{TriedMaps}

-- the keys have at most 16 bits together
abbrev pub AreFew : TriedMaps → Type 0
AreFew t = bits_in t.kinds.items ≤ 16

-- the kinds are those of the function's keys, which have few bits, and the table describes the path runs of all its
-- input maps
pub record AreTried (ty : Typing) (without : Kinds) (f : FunctionTree) (t : TriedMaps) : Type 0 where
  pub kinds : t.kinds.items ≡ kinds_of (keys_of ty without f)
  pub few : AreFew t
  pub table : IsTableOf ty without f (2 ^ bits_in t.kinds.items) t.table
