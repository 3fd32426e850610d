-- When two types are the same, and when two declarations agree on a type (C11 6.2.7, 6.7.6.3p15). Whether a function is
-- marked as not returning is no part of its type.
use Rattle.std.specs.Prelude.{ℕ, Bool, true, false, ◌&&◌, ◌==◌, Option, Some, None}
use Rattle.stk_ctype.specs.declared.kind.IntKind.{IntKind}
use Rattle.stk_ctype.specs.declared.kind.IntKind.TheVariants as kind
use Rattle.stk_ctype.specs.Types.{TypeTree, void_type, integer_type, pointer_type, array_type, struct_type, function_type, SignatureTree, signature, TypeTrees, no_types, then_type}

-- a number for each integer kind
abbrev pub kind_number : IntKind → ℕ
kind_number kind.Bool = 0
kind_number kind.Char = 1
kind_number kind.SChar = 2
kind_number kind.UChar = 3
kind_number kind.Short = 4
kind_number kind.UShort = 5
kind_number kind.Int = 6
kind_number kind.UInt = 7
kind_number kind.Long = 8
kind_number kind.ULong = 9
kind_number kind.LLong = 10
kind_number kind.ULLong = 11

-- two sizes of arrays are both unknown, or the same
abbrev pub same_count : Option ℕ → Option ℕ → Bool
same_count None None = true
same_count None (Some n) = false
same_count (Some m) None = false
same_count (Some m) (Some n) = m == n

-- both hold, or neither does
abbrev pub same_truth : Bool → Bool → Bool
same_truth true b = b
same_truth false true = false
same_truth false false = true

abbrev mutual
  -- two types are the same
  pub same : TypeTree → TypeTree → Bool
  same void_type void_type = true
  same (integer_type j) (integer_type k) = kind_number j == kind_number k
  same (pointer_type t) (pointer_type u) = same t u
  same (array_type t c) (array_type u d) = same_count c d && same t u
  same (struct_type i) (struct_type j) = i == j
  same (function_type f) (function_type g) = same_signature f g
  same t u = false

  pub same_signature : SignatureTree → SignatureTree → Bool
  same_signature (signature r ps more x) (signature s qs others y) = same_truth more others && (same r s && same_row ps qs)

  pub same_row : TypeTrees → TypeTrees → Bool
  same_row no_types no_types = true
  same_row no_types (then_type u us) = false
  same_row (then_type t ts) no_types = false
  same_row (then_type t ts) (then_type u us) = same t u && same_row ts us
