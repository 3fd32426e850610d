-- How deep types are, so that what a type shares and owns is less deep than it is.
use Rattle.std.specs.Prelude.{ℕ, ◌+◌, max}
use Rattle.stk_ctype.specs.Trees.{TypeTree, void_type, integer_type, pointer_type, array_type, struct_type, function_type, SignatureTree, signature, TypeTrees, no_types, then_type}

abbrev mutual
  -- how deep a type is
  pub depth : TypeTree → ℕ
  depth void_type = 0
  depth (integer_type k) = 0
  depth (pointer_type t) = depth t + 1
  depth (array_type t n) = depth t + 1
  depth (struct_type id) = 0
  depth (function_type f) = depth_of_signature f + 2

  pub depth_of_signature : SignatureTree → ℕ
  depth_of_signature (signature r ps more no_return) = max (depth r) (depth_of_row ps)

  pub depth_of_row : TypeTrees → ℕ
  depth_of_row no_types = 0
  depth_of_row (then_type t ts) = max (depth t) (depth_of_row ts)

-- how deep a signature is that may have several owners
abbrev pub depth_of_shared : SignatureTree → ℕ
depth_of_shared f = depth_of_signature f + 1
