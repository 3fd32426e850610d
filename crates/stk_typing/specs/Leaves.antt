-- What is known of the expressions that an initialiser holds.
use Rattle.std.specs.Prelude.{false, not, ◌&&◌, ◌||◌}
use Rattle.stk_type_rules.specs.Facts.{Fact}
use Rattle.stk_type_rules.specs.Types.{decayed, is_scalar, is_struct}
use Rattle.stk_typing.specs.declared.initialiser_leaves.Leaves.{Leaves}

-- no expression
abbrev pub no_leaf : Leaves
no_leaf = record { has_other = false; has_struct = false }

-- one expression: whether it is neither a scalar nor a struct, and whether it is a struct
abbrev pub leaf : Fact → Leaves
leaf x = record { has_other = not (is_scalar (decayed x.ty)) && not (is_struct x.ty); has_struct = is_struct x.ty }

-- the expressions of two parts
abbrev pub merged : Leaves → Leaves → Leaves
merged a b = record { has_other = a.has_other || b.has_other; has_struct = a.has_struct || b.has_struct }
