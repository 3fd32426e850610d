-- Where a statement of a function stands.
use Rattle.std.specs.Prelude.{ℕ, Bool, true, List, length, drop}
use Rattle.std.specs.Option.{is_some}
use Rattle.stk_ctype.specs.Types.{TypeTree}
use Rattle.stk_typing.specs.Locals.{Local, find_local}
use Rattle.stk_typing.specs.Scope.{Scope}
use Rattle.stk_declarators.specs.Parameters.{with_locals}

-- the names in force, the declarators whose names are operands of `&`, how many locals stand outside of the block at
-- hand, what the function returns, and whether there is something for `break` and for `continue` to leave
pub record Body : Type 0 where
  pub scope : Scope
  pub taken : List ℕ
  pub outer : ℕ
  pub returns : TypeTree
  pub can_break : Bool
  pub can_continue : Bool

-- with more locals in force
abbrev pub with_more : Body → List Local → Body
with_more b ls = record { scope = with_locals b.scope ls; taken = b.taken; outer = b.outer; returns = b.returns; can_break = b.can_break; can_continue = b.can_continue }

-- a block of its own
abbrev pub opened : Body → Body
opened b = record { scope = b.scope; taken = b.taken; outer = length b.scope.locals; returns = b.returns; can_break = b.can_break; can_continue = b.can_continue }

-- the body of a loop, and that of a `switch`
abbrev pub looped : Body → Body
looped b = record { scope = b.scope; taken = b.taken; outer = b.outer; returns = b.returns; can_break = true; can_continue = true }

abbrev pub switched : Body → Body
switched b = record { scope = b.scope; taken = b.taken; outer = b.outer; returns = b.returns; can_break = true; can_continue = b.can_continue }

-- whether a local of the block at hand has this name
abbrev pub is_in_block : Body → List ℕ → Bool
is_in_block b name = is_some (find_local name (drop b.outer b.scope.locals))
