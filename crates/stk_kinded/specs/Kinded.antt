-- What a walk asks of the types of an expression: each value has the kind of its node, and what is stored to has the
-- kind of what is stored (C11 6.3.1.8, 6.5).
use Rattle.std.specs.Prelude.{ℕ, ◌≡◌, Option, Some, None, ℤ}
use Rattle.stk_ctype.specs.declared.kind.IntKind.{IntKind}
use Rattle.stk_ctype.specs.declared.kind.IntKind.TheVariants.{Int, ULong}
use Rattle.stk_tree.specs.declared.expression.UnaryOp.{UnaryOp}
use Rattle.stk_tree.specs.declared.expression.UnaryOp.TheVariants as unary
use Rattle.stk_tree.specs.Syntax.{ExprTree, ExprTrees, ExprFormTree}
use Rattle.stk_tree.specs.Syntax as s
use Rattle.stk_numbers.specs.Kinds.{promote}
use Rattle.stk_meaning.specs.Typings.{Typing, type_in, number_kind}
use Rattle.stk_meaning.specs.Operations.{operation_of, BinarySort, operates, joins, or_else, and_also, sort_of}
use Rattle.stk_meaning.specs.Libraries.{called_signature, result_in}
use Rattle.stk_meaning.specs.Places.{Setting, object_named, target_at}
use Rattle.stk_kinded.specs.Kinds.{operation_kind, Suits, IsStored}

-- a name has the kind of the register or kept object that it means; an enumerator's name means its number
abbrev pub NameHasKind : Setting → ℕ → ℕ → Option ℤ → Type 0
NameHasKind g k object (Some z) = Unit {0}
NameHasKind g k object None = Suits g (target_at g object) (number_kind (g.typing.type_at k))

-- an address is an `unsigned long`; `-` and `~` give the promoted kind of their operand, and `!` an `int`; `+` converts
-- to its own kind, and what `*` gives is read in its own kind
abbrev pub UnaryHasKind : Typing → ℕ → IntKind → UnaryOp → Type 0
UnaryHasKind ty k operand unary.Address = number_kind (ty.type_at k) ≡ ULong
UnaryHasKind ty k operand unary.Deref = Unit {0}
UnaryHasKind ty k operand unary.Plus = Unit {0}
UnaryHasKind ty k operand unary.Minus = number_kind (ty.type_at k) ≡ promote operand
UnaryHasKind ty k operand unary.Flip = number_kind (ty.type_at k) ≡ promote operand
UnaryHasKind ty k operand unary.Not = number_kind (ty.type_at k) ≡ Int

-- an operator on two numbers has the kind of its operation, `,` that of its right operand, and `||` and `&&` give an
-- `int`
abbrev pub BinaryHasKind : Typing → ℕ → BinarySort → ExprTree → ExprTree → Type 0
BinaryHasKind ty k (operates op) a b = number_kind (ty.type_at k) ≡ operation_kind (operation_of ty op (type_in ty a) (type_in ty b))
BinaryHasKind ty k joins a b = number_kind (ty.type_at k) ≡ number_kind (type_in ty b)
BinaryHasKind ty k or_else a b = number_kind (ty.type_at k) ≡ Int
BinaryHasKind ty k and_also a b = number_kind (ty.type_at k) ≡ Int

-- what is asked of a node itself: parentheses have the kind of what they hold, a call that of its function's result,
-- and what stores that of its left operand; constants, `sizeof`, casts and `?:` convert to their own kind, and places
-- are read in theirs
abbrev pub HasKind : Setting → ℕ → ExprFormTree → Type 0
HasKind g k (s.name at) = NameHasKind g k (object_named g k at) (g.typing.number_at k)
HasKind g k (s.number at) = Unit {0}
HasKind g k (s.character at) = Unit {0}
HasKind g k (s.text parts) = Unit {0}
HasKind g k (s.paren e) = number_kind (g.typing.type_at k) ≡ number_kind (type_in g.typing e)
HasKind g k (s.index a b) = Unit {0}
HasKind g k (s.call e es) = number_kind (g.typing.type_at k) ≡ number_kind (result_in (called_signature g.typing e))
HasKind g k (s.dot e at) = Unit {0}
HasKind g k (s.arrow e at) = Unit {0}
HasKind g k (s.step op e) = (number_kind (g.typing.type_at k) ≡ number_kind (type_in g.typing e)) × IsStored g e
HasKind g k (s.unary op e) = UnaryHasKind g.typing k (number_kind (type_in g.typing e)) op
HasKind g k (s.size_expression e) = Unit {0}
HasKind g k (s.size_name t) = Unit {0}
HasKind g k (s.cast t e) = Unit {0}
HasKind g k (s.binary op a b) = BinaryHasKind g.typing k (sort_of op) a b
HasKind g k (s.choice a b c) = Unit {0}
HasKind g k (s.assign op a b) = (number_kind (g.typing.type_at k) ≡ number_kind (type_in g.typing a)) × IsStored g a

-- an expression and each part of it that is evaluated
abbrev mutual
  pub Kinded : Setting → ExprTree → Type 0
  Kinded g (s.expression n f) = HasKind g n.number f × KindedParts g f

  -- the operands of a form
  pub KindedParts : Setting → ExprFormTree → Type 0
  KindedParts g (s.name at) = Unit {0}
  KindedParts g (s.number at) = Unit {0}
  KindedParts g (s.character at) = Unit {0}
  KindedParts g (s.text parts) = Unit {0}
  KindedParts g (s.paren e) = Kinded g e
  KindedParts g (s.index a b) = Kinded g a × Kinded g b
  KindedParts g (s.call e es) = KindedAll g es
  KindedParts g (s.dot e at) = Kinded g e
  KindedParts g (s.arrow e at) = Kinded g e
  KindedParts g (s.step op e) = Kinded g e
  KindedParts g (s.unary op e) = Kinded g e
  KindedParts g (s.size_expression e) = Unit {0}
  KindedParts g (s.size_name t) = Unit {0}
  KindedParts g (s.cast t e) = Kinded g e
  KindedParts g (s.binary op a b) = Kinded g a × Kinded g b
  KindedParts g (s.choice a b c) = Kinded g a × Kinded g b × Kinded g c
  KindedParts g (s.assign op a b) = Kinded g a × Kinded g b

  -- arguments
  pub KindedAll : Setting → ExprTrees → Type 0
  KindedAll g s.no_expressions = Unit {0}
  KindedAll g (s.then_expression e es) = Kinded g e × KindedAll g es
