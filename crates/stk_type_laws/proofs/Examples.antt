-- The name of an array in the initialiser that counts its elements has no size yet, so its type isn't the declared one
-- there (C11 6.7.9p22).
use Rattle.std.proofs.Common.{◌≡◌, ℕ, false, List, [], ◌∷◌, Some, None, refl}
use Rattle.std.specs.Prelude.{pos}
use Rattle.stk_base.specs.declared.span.Span.{Span}
use Rattle.stk_ctype.specs.declared.kind.IntKind.TheVariants as kind
use Rattle.stk_ctype.specs.Types.{TypeTree, integer_type, array_type, void_type}
use Rattle.stk_tree.specs.declared.node.Node.{Node}
use Rattle.stk_tree.specs.Syntax.{DeclrTree}
use Rattle.stk_tree.specs.Syntax as s
use Rattle.stk_type_rules.specs.Facts.{Fact, named, literal, place, declares}
use Rattle.stk_type_rules.specs.Outcome.{Good}
use Rattle.stk_typing.specs.Locals.{Local}
use Rattle.stk_function_types.specs.Bodies.{Body}
use Rattle.stk_function_types.specs.Locals.{local_declared}

abbrev n : ℕ → Node
n k = record { number = k; span = record { from = 0; to = 0 } }

abbrev at : ℕ → ℕ → Span
at from to = record { from = from; to = to }

abbrev int : TypeTree
int = integer_type kind.Int

-- the bytes are `a0`
abbrev body : Body
body = record { scope = record { bytes = 97 ∷ 48 ∷ []; entries = []; locals = []; own = None }; taken = []; outer = 0; returns = void_type; can_break = false; can_continue = false }

-- `a[] = { a[0] }`
abbrev counting : DeclrTree
counting =
    s.declarator (n 3) 0 (Some (at 0 1)) (s.arrays (s.then_dimension s.open_dimension s.no_dimensions))
    (s.some_initialiser (s.braces (s.then_item (s.item s.no_designators (s.plain (s.expression (n 2) (s.index (s.expression (n 0) (s.name (at 0 1))) (s.expression (n 1) (s.number (at 1 2))))))) s.no_items) false))

abbrev local_a : Local
local_a = record { name = 97 ∷ []; node = 3; ty = array_type int (Some 1) }

abbrev its_facts : List Fact
its_facts = named (array_type int None) 3 ∷ literal int (pos 0) ∷ place int ∷ declares (array_type int (Some 1)) ∷ []

own_name_has_no_size : local_declared body false int counting ≡ Good (local_a ∷ []) its_facts
own_name_has_no_size = refl
