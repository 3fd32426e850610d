-- Where a statement of a function stands, as the code knows it.
use Rattle.std.specs.Prelude.{ℕ, ◌≡◌, List, Option, length, map, take}
use Rattle.stk_ctype.specs.Types.{type_of}
use Rattle.stk_typing.specs.declared.locals.LocalName.{LocalName}
use Rattle.stk_typing.specs.Locals.{local_of}
use Rattle.stk_typing.specs.Scope.{Scope}
use Rattle.stk_declarators.specs.Rows.{file_scope}
use Rattle.stk_function_types.specs.Bodies.{Body}
use Rattle.stk_statements.specs.declared.places.Context.{Context}

-- what the code knows of where a statement stands, with these locals in force
abbrev pub body_in : Context → List LocalName → Body
body_in p ls = record { scope = file_scope p.file ls; taken = p.taken.now; outer = p.outer; returns = type_of p.returns.now; can_break = p.can_break; can_continue = p.can_continue }

-- the locals begin with those before
abbrev pub Begins : List LocalName → List LocalName → Type 0
Begins before now = take (length before) now ≡ before

-- the names that the code knows to be in force, in the initialiser of a register
abbrev pub scope_owned : Context → List LocalName → Option ℕ → Scope
scope_owned p ls own = record { bytes = p.file.bytes.now; entries = p.file.names.now; locals = map local_of ls; own = own }
