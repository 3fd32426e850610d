-- How many turns the loop that drops a type takes, from which it follows that it ends.
use Rattle.std.specs.Prelude.{◌≡◌, ◌≤◌, ◌<◌, ℕ, ◌+◌, List, map}
use Rattle.stk_ctype.specs.declared.ctype.CType.{CType}
use Rattle.stk_ctype.specs.declared.ctype.Opened.{Opened}
use Rattle.stk_ctype.specs.declared.ctype.Opened.TheVariants as opened
use Rattle.stk_ctype.specs.Types.{TypeTree, SignatureTree, TypeTrees, void_type, integer_type, pointer_type, array_type, struct_type, function_type, signature, no_types, then_type, row_of, type_of}

abbrev mutual
  -- the turns that a type takes at hand: a function one to go in and one to come out
  pub turns : TypeTree → ℕ
  turns void_type = 1
  turns (integer_type k) = 1
  turns (pointer_type t) = turns t + 1
  turns (array_type t n) = turns t + 1
  turns (struct_type id) = 1
  turns (function_type f) = turns_of_signature f

  pub turns_of_signature : SignatureTree → ℕ
  turns_of_signature (signature r ps more no_return) = turns r + turns_of_row ps + 2

  pub turns_of_row : TypeTrees → ℕ
  turns_of_row no_types = 0
  turns_of_row (then_type t ts) = turns t + turns_of_row ts

-- the turns that types in a row take
abbrev pub turns_of_types : List CType → ℕ
turns_of_types ts = turns_of_row (row_of (map type_of ts))

abbrev mutual
  -- the turns that a type takes which waits outside: a function one to come out, and what waits in the place of its
  -- result
  pub turns_outside : TypeTree → ℕ
  turns_outside void_type = 0
  turns_outside (integer_type k) = 0
  turns_outside (pointer_type t) = turns t + 1
  turns_outside (array_type t n) = turns t + 1
  turns_outside (struct_type id) = 0
  turns_outside (function_type f) = turns_outside_signature f

  pub turns_outside_signature : SignatureTree → ℕ
  turns_outside_signature (signature r ps more no_return) = turns_outside r + turns_of_row ps + 1

-- what is in a type, as far as the turns go: less than it is
abbrev pub IsOpened : CType → Opened → Type 0
IsOpened t opened.Nothing = 1 ≤ turns (type_of t)
IsOpened t (opened.Inner inner) = (turns (type_of inner) < turns (type_of t)) × (turns (type_of inner) < turns_outside (type_of t))
IsOpened t (opened.Function f) = type_of t ≡ function_type f
