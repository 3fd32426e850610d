-- Tables of what the path runs of a function hit.
use Rattle.std.specs.Prelude.{◌≡◌, ℕ, List, [], ◌∷◌, length, Option, ℤ}
use Rattle.stk_tree.specs.Syntax.{FunctionTree}
use Rattle.stk_ctype.specs.declared.kind.IntKind.{IntKind}
use Rattle.stk_numbers.specs.Kinds.{wrap}
use Rattle.stk_numbers.specs.declared.conditions.Kinds.{Kinds}
use Rattle.stk_meaning.specs.declared.entry.Entry.{Entry}
use Rattle.stk_meaning.specs.Typings.{Typing}
use Rattle.stk_hits.specs.Tables.{Table, Describes}
use Rattle.stk_hits.specs.PathSubjects.{ArePathRuns}

-- a table describes the path runs of the first input maps, so many of them, in the order of their numbers
pub record IsTableOf (ty : Typing) (without : Kinds) (f : FunctionTree) (n : ℕ) (table : Table) : Type 0 where
  pub runs : List (Option (List Entry))
  pub count : length runs ≡ n
  pub are : ArePathRuns ty without f runs
  pub described : Describes runs [] table

-- numbers converted each to its kind
abbrev pub wrapped : List IntKind → List ℤ → List ℤ
wrapped [] xs = []
wrapped (k ∷ ks) [] = []
wrapped (k ∷ ks) (x ∷ xs) = wrap k x ∷ wrapped ks xs
