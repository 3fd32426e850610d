-- What the cost of a walk asks of types: where a form pays by the bits of a type, the numbers of that type have no more
-- bits; so the type isn't `void` and no struct, and no conversion but one to `_Bool` costs anything (C11 6.3.1.2, 6.5).
use Rattle.std.specs.Prelude.{ℕ, ◌≡◌, ◌≤◌, Bool, true, false, Option, Some, None, ℤ}
use Rattle.stk_ctype.specs.Types.{TypeTree}
use Rattle.stk_tree.specs.declared.expression.UnaryOp.{UnaryOp}
use Rattle.stk_tree.specs.declared.expression.UnaryOp.TheVariants as unary
use Rattle.stk_tree.specs.Syntax.{ExprTree, MaybeExprTree, ExprFormTree, InitTree, MaybeInitTree, StmtFormTree}
use Rattle.stk_tree.specs.Syntax as s
use Rattle.stk_numbers.specs.Kinds.{width_of, is_bool, promote}
use Rattle.stk_type_rules.specs.Types.{is_scalar}
use Rattle.stk_meaning.specs.Typings.{Typing, type_in, number_kind}
use Rattle.stk_meaning.specs.Operations.{Operator, arithmetic, shifting, comparing, BinarySort, operates, joins, or_else, and_also, sort_of, assigned_operator}
use Rattle.stk_meaning.specs.Visits.{Use, read, accessed, taken, Role, Visit, at_expression, at_declarator, at_statement, at_section}
use Rattle.stk_meaning.specs.Weights.{bits_in}

-- the numbers of a type have no more bits than it counts
abbrev pub HasBits : TypeTree → Type 0
HasBits t = width_of (number_kind t) ≤ bits_in t

-- the type of a node isn't `_Bool`
abbrev pub IsNoBool : Typing → ℕ → Type 0
IsNoBool ty k = is_bool (number_kind (ty.type_at k)) ≡ false

-- a name that is read, unless it is an enumerator's
abbrev pub NameHasBits : Typing → ℕ → Use → Option ℤ → Type 0
NameHasBits ty k read None = HasBits (ty.type_at k)
NameHasBits ty k read (Some z) = Unit {0}
NameHasBits ty k accessed z = Unit {0}
NameHasBits ty k taken z = Unit {0}

-- `+` gives no `_Bool`; `-` and `~` give a number as wide as their promoted operand; the operand of `!` is tested
abbrev pub UnaryHasBits : Typing → ℕ → UnaryOp → ExprTree → Type 0
UnaryHasBits ty k unary.Address e = Unit {0}
UnaryHasBits ty k unary.Deref e = Unit {0}
UnaryHasBits ty k unary.Plus e = IsNoBool ty k
UnaryHasBits ty k unary.Minus e = width_of (promote (number_kind (type_in ty e))) ≤ bits_in (ty.type_at k)
UnaryHasBits ty k unary.Flip e = width_of (promote (number_kind (type_in ty e))) ≤ bits_in (ty.type_at k)
UnaryHasBits ty k unary.Not e = HasBits (type_in ty e)

-- the count of a shift
abbrev pub OperandHasBits : Typing → Operator → ExprTree → Type 0
OperandHasBits ty (arithmetic op) b = Unit {0}
OperandHasBits ty (shifting op) b = HasBits (type_in ty b)
OperandHasBits ty (comparing op) b = Unit {0}

-- the operands of `||` and `&&` are tested
abbrev pub BinaryHasBits : Typing → BinarySort → ExprTree → ExprTree → Type 0
BinaryHasBits ty (operates op) a b = OperandHasBits ty op b
BinaryHasBits ty joins a b = Unit {0}
BinaryHasBits ty or_else a b = HasBits (type_in ty a) × HasBits (type_in ty b)
BinaryHasBits ty and_also a b = HasBits (type_in ty a) × HasBits (type_in ty b)

-- the right side of an assignment is converted
abbrev pub AssignedHasBits : Typing → Option Operator → ExprTree → Type 0
AssignedHasBits ty None b = HasBits (type_in ty b)
AssignedHasBits ty (Some op) b = OperandHasBits ty op b

-- what is asked of a form at a node; `?:` tests its first operand, and is no `_Bool`
abbrev pub FormHasBits : Typing → ℕ → Role → ExprFormTree → Type 0
FormHasBits ty k role (s.name at) = NameHasBits ty k role.use_of (ty.number_at k)
FormHasBits ty k role (s.number at) = Unit {0}
FormHasBits ty k role (s.character at) = Unit {0}
FormHasBits ty k role (s.text parts) = Unit {0}
FormHasBits ty k role (s.paren e) = Unit {0}
FormHasBits ty k role (s.index a b) = Unit {0}
FormHasBits ty k role (s.call e es) = Unit {0}
FormHasBits ty k role (s.dot e at) = Unit {0}
FormHasBits ty k role (s.arrow e at) = Unit {0}
FormHasBits ty k role (s.step op e) = Unit {0}
FormHasBits ty k role (s.unary op e) = UnaryHasBits ty k op e
FormHasBits ty k role (s.size_expression e) = Unit {0}
FormHasBits ty k role (s.size_name t) = Unit {0}
FormHasBits ty k role (s.cast t e) = Unit {0}
FormHasBits ty k role (s.binary op a b) = BinaryHasBits ty (sort_of op) a b
FormHasBits ty k role (s.choice a b c) = HasBits (type_in ty a) × IsNoBool ty k
FormHasBits ty k role (s.assign op a b) = AssignedHasBits ty (assigned_operator op) b

-- braces initialise no scalar
abbrev pub InitialHasBits : TypeTree → MaybeInitTree → Type 0
InitialHasBits t s.no_initialiser = Unit {0}
InitialHasBits t (s.some_initialiser (s.plain e)) = Unit {0}
InitialHasBits t (s.some_initialiser (s.braces items comma)) = is_scalar t ≡ false

abbrev pub DeclaratorHasBits : Typing → ℕ → Bool → MaybeInitTree → Type 0
DeclaratorHasBits ty k true init = Unit {0}
DeclaratorHasBits ty k false init = InitialHasBits (ty.type_at k) init

-- a controlling expression of `if` and of loops is tested
abbrev pub TestHasBits : Typing → MaybeExprTree → Type 0
TestHasBits ty s.no_expression = Unit {0}
TestHasBits ty (s.some_expression e) = HasBits (type_in ty e)

abbrev pub StatementHasBits : Typing → StmtFormTree → Type 0
StatementHasBits ty (s.block ps) = Unit {0}
StatementHasBits ty (s.expression_statement e) = Unit {0}
StatementHasBits ty (s.if_statement e x y) = HasBits (type_in ty e)
StatementHasBits ty (s.switch_statement e ss) = Unit {0}
StatementHasBits ty (s.while_statement e x) = HasBits (type_in ty e)
StatementHasBits ty (s.do_statement x e) = HasBits (type_in ty e)
StatementHasBits ty (s.for_statement first test step x) = TestHasBits ty test
StatementHasBits ty s.break_statement = Unit {0}
StatementHasBits ty s.continue_statement = Unit {0}
StatementHasBits ty (s.return_statement e) = Unit {0}

-- what is asked of each evaluated node
abbrev pub VisitHasBits : Typing → Visit → Type 0
VisitHasBits ty (at_expression k role f) = FormHasBits ty k role f
VisitHasBits ty (at_declarator k static at init) = DeclaratorHasBits ty k static init
VisitHasBits ty (at_statement k arm f) = StatementHasBits ty f
VisitHasBits ty (at_section k ls) = Unit {0}
