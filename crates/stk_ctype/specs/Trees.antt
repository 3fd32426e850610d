-- The types of C as plain trees.
use Rattle.std.specs.Prelude.{ℕ, Bool, List, [], ◌∷◌, Option}
use Rattle.stk_ctype.specs.declared.kind.IntKind.{IntKind}

mutual
  -- `void`; an integer type; a pointer to a type; an array of a type, with its number of elements where it is known;
  -- the struct of a number; a function (C11 6.2.5)
  pub data TypeTree : Type 0 where
    void_type : TypeTree
    integer_type : IntKind → TypeTree
    pointer_type : TypeTree → TypeTree
    array_type : TypeTree → Option ℕ → TypeTree
    struct_type : ℕ → TypeTree
    function_type : SignatureTree → TypeTree

  -- the result of a function, its parameters, whether it takes more arguments, and whether it is marked as not
  -- returning
  pub data SignatureTree : Type 0 where
    signature : TypeTree → TypeTrees → Bool → Bool → SignatureTree

  -- types in a row
  pub data TypeTrees : Type 0 where
    no_types : TypeTrees
    then_type : TypeTree → TypeTrees → TypeTrees

-- a list of types as a row
abbrev pub row_of : List TypeTree → TypeTrees
row_of [] = no_types
row_of (t ∷ ts) = then_type t (row_of ts)
