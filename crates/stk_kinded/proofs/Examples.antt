-- What is kinded, and what isn't: a few expressions and a declaration, with tables in place of typing.
use Rattle.std.proofs.Common.{◌≡◌, ℕ, List, [], ◌∷◌, Some, None, pos, refl}
use Rattle.stk_ctype.specs.declared.kind.IntKind.{IntKind}
use Rattle.stk_ctype.specs.declared.kind.IntKind.TheVariants as kind
use Rattle.stk_ctype.specs.Types.{TypeTree, integer_type, pointer_type}
use Rattle.stk_tree.specs.declared.expression.StepOp.TheVariants as step
use Rattle.stk_tree.specs.declared.expression.UnaryOp.TheVariants as unary
use Rattle.stk_tree.specs.declared.expression.BinaryOp.TheVariants as binary
use Rattle.stk_tree.specs.declared.expression.AssignOp.TheVariants as assign
use Rattle.stk_tree.specs.Syntax.{ExprTree, StmtTree}
use Rattle.stk_tree.specs.Syntax as s
use Rattle.stk_meaning.specs.Places.{Setting}
use Rattle.stk_meaning.proofs.Told.{told, n, at, all_kinds}
use Rattle.stk_kinded.specs.Kinded.{Kinded}
use Rattle.stk_kinded.specs.KindedStatements.{KindedStatement}

-- two nodes 0 and 1 declare a register and a kept object of some types, the names at the nodes 2 and 3 mean them, and
-- the other nodes have types of their own
abbrev setting : TypeTree → TypeTree → List (ℕ × TypeTree) → Setting
setting register object types = record {
  typing = told [] ((0, register) ∷ (1, object) ∷ (2, register) ∷ (3, object) ∷ types) ((2, 0) ∷ (3, 1) ∷ []) ((4, pos 1) ∷ []) [] [] [] [];
  without = all_kinds;
  registers = 0 ∷ [];
  mentions = [];
  kept = 1 ∷ [];
}

abbrev type_of : IntKind → TypeTree
type_of k = integer_type k

abbrev x : ExprTree
x = s.expression (n 2) (s.name (at 0 1))

abbrev y : ExprTree
y = s.expression (n 3) (s.name (at 0 1))

abbrev one : ExprTree
one = s.expression (n 4) (s.number (at 0 1))

-- `x + 1` of a `char` is an `int`
abbrev sum : ExprTree
sum = s.expression (n 5) (s.binary binary.Add x one)

sum_is_int : Kinded (setting (type_of kind.Char) (type_of kind.Int) ((4, type_of kind.Int) ∷ (5, type_of kind.Int) ∷ [])) sum
sum_is_int = (refl, ((refl, tt), (tt, tt)))

-- and no `char`
sum_is_no_char : Kinded (setting (type_of kind.Char) (type_of kind.Int) ((4, type_of kind.Int) ∷ (5, type_of kind.Char) ∷ [])) sum → ⊥
sum_is_no_char h = let e : kind.Char ≡ kind.Int = h.0 in absurd cc

-- `x < 1` of an `unsigned long` is an `int`; it isn't of the kind in which it compares
abbrev order : ExprTree
order = s.expression (n 5) (s.binary binary.Lt x one)

order_is_int : Kinded (setting (type_of kind.ULong) (type_of kind.Int) ((4, type_of kind.Int) ∷ (5, type_of kind.Int) ∷ [])) order
order_is_int = (refl, ((refl, tt), (tt, tt)))

order_is_no_long : Kinded (setting (type_of kind.ULong) (type_of kind.Int) ((4, type_of kind.Int) ∷ (5, type_of kind.ULong) ∷ [])) order → ⊥
order_is_no_long h = let e : kind.ULong ≡ kind.Int = h.0 in absurd cc

-- a pointer moved by a number is an address, and so is a number and a pointer; two pointers have a distance
abbrev pointer : TypeTree
pointer = pointer_type (type_of kind.Int)

moved_is_address : Kinded (setting pointer (type_of kind.Int) ((4, type_of kind.Int) ∷ (5, pointer) ∷ [])) sum
moved_is_address = (refl, ((refl, tt), (tt, tt)))

abbrev difference : ExprTree
difference = s.expression (n 5) (s.binary binary.Sub x y)

distance_is_long : Kinded (setting pointer pointer ((5, type_of kind.Long) ∷ [])) difference
distance_is_long = (refl, ((refl, tt), (refl, tt)))

-- `(y) = x` of a `short` and an `int` is a `short`, and so is the place in the parentheses
abbrev held : ExprTree
held = s.expression (n 6) (s.paren y)

abbrev stored : ExprTree
stored = s.expression (n 7) (s.assign assign.Plain held x)

stored_is_short : Kinded (setting (type_of kind.Int) (type_of kind.Short) ((6, type_of kind.Short) ∷ (7, type_of kind.Short) ∷ [])) stored
stored_is_short = ((refl, record { suits = refl; inside = refl }), ((refl, (refl, tt)), (refl, tt)))

-- it isn't where the parentheses have another kind than what they hold
stored_is_no_long : Kinded (setting (type_of kind.Int) (type_of kind.Short) ((6, type_of kind.Long) ∷ (7, type_of kind.Long) ∷ [])) stored → ⊥
stored_is_no_long h = let e : kind.Short ≡ kind.Long = h.0.1.inside in absurd cc

-- `-x` and `~x` of a `short` are of kind `int`, `!x` too, and `&y` is an address
abbrev signed : ExprTree
signed = s.expression (n 5) (s.unary unary.Minus x)

minus_is_int : Kinded (setting (type_of kind.Short) (type_of kind.Int) ((5, type_of kind.Int) ∷ [])) signed
minus_is_int = (refl, (refl, tt))

minus_is_no_short : Kinded (setting (type_of kind.Short) (type_of kind.Int) ((5, type_of kind.Short) ∷ [])) signed → ⊥
minus_is_no_short h = let e : kind.Short ≡ kind.Int = h.0 in absurd cc

abbrev address : ExprTree
address = s.expression (n 5) (s.unary unary.Address y)

address_is_address : Kinded (setting (type_of kind.Int) (type_of kind.Int) ((5, pointer) ∷ [])) address
address_is_address = (refl, (refl, tt))

-- `int x = 1; x++;` in a block
abbrev counted : StmtTree
counted =
    s.statement (n 9) (s.block (s.then_part (s.local (s.declaration None (s.base (n 8) (s.words [])) (s.then_declarator (s.declarator (n 0) 0 (Some (at 0 1)) (s.arrays s.no_dimensions) (s.some_initialiser (s.plain one))) s.no_declarators)))
    (s.then_part (s.run (s.statement (n 6) (s.expression_statement (s.some_expression (s.expression (n 5) (s.step step.IncAfter x)))))) s.no_parts)))

counted_is_kinded : KindedStatement (setting (type_of kind.Int) (type_of kind.Int) ((4, type_of kind.Int) ∷ (5, type_of kind.Int) ∷ [])) counted
counted_is_kinded = (((refl, (tt, tt)), tt), (((refl, record { suits = refl; inside = refl }), (refl, tt)), tt))
