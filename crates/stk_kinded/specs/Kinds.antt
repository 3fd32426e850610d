-- The kinds of registers, of kept objects, of operations and of input keys (C11 6.2.5, 6.3.1.8, 6.5).
use Rattle.std.specs.Prelude.{ℕ, ◌≡◌, get_or}
use Rattle.stk_ctype.specs.declared.kind.IntKind.{IntKind}
use Rattle.stk_ctype.specs.declared.kind.IntKind.TheVariants.{Int, Long, ULong}
use Rattle.stk_tree.specs.Syntax.{ExprTree}
use Rattle.stk_tree.specs.Parts.{bare}
use Rattle.stk_meaning.specs.Typings.{type_in, number_kind}
use Rattle.stk_meaning.specs.Operations.{Operation, in_kind, shift_in, compare_in, move, move_behind, measure}
use Rattle.stk_meaning.specs.Places.{Setting, Target, in_register, in_kept, in_object, unnamed, target_of}
use Rattle.stk_meaning.specs.Keys.{Key, parameter_key, address_key, unset_key, load_key, call_key, loop_key}

-- the kind of a register's numbers, by its declarator
abbrev pub register_kind : Setting → ℕ → IntKind
register_kind g i = number_kind (g.typing.type_at i)

-- the kind of a kept object's numbers, by its position
abbrev pub cell_kind : Setting → ℕ → IntKind
cell_kind g q = number_kind (g.typing.type_at (get_or g.kept q 0))

-- the kind of an operation's value
abbrev pub operation_kind : Operation → IntKind
operation_kind (in_kind op k) = k
operation_kind (shift_in op k) = k
operation_kind (compare_in op k) = Int
operation_kind (move minus size) = ULong
operation_kind (move_behind size) = ULong
operation_kind (measure size) = Long

-- the numbers of a register or kept object have a kind
abbrev pub Suits : Setting → Target → IntKind → Type 0
Suits g (in_register i) k = register_kind g i ≡ k
Suits g (in_kept q) k = cell_kind g q ≡ k
Suits g (in_object o) k = Unit {0}
Suits g unnamed k = Unit {0}

-- an operand that is stored to: a register or kept object has its kind, and so has the place in its parentheses
pub record IsStored (g : Setting) (e : ExprTree) : Type 0 where
  pub suits : Suits g (target_of g e) (number_kind (type_in g.typing e))
  pub inside : number_kind (type_in g.typing (bare e)) ≡ number_kind (type_in g.typing e)

-- the kind that the form of an input key says: an address is an `unsigned long`, and every other number has the kind of
-- its node, or of its register, where a loop sets one
abbrev pub key_kind : Setting → Key → IntKind
key_kind g (parameter_key k) = number_kind (g.typing.type_at k)
key_kind g (address_key k) = ULong
key_kind g (unset_key k) = number_kind (g.typing.type_at k)
key_kind g (load_key k) = number_kind (g.typing.type_at k)
key_kind g (call_key k) = number_kind (g.typing.type_at k)
key_kind g (loop_key k j) = number_kind (g.typing.type_at j)
