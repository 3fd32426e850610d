-- Function definitions (C11 6.9.1): the facts of all nodes, up to the first node that a rule refuses.
use Rattle.std.specs.Prelude.{ℕ, true, false, List, [], Option, Some, None}
use Rattle.stk_ctype.specs.declared.symbol.NameEntry.{NameEntry}
use Rattle.stk_ctype.specs.Types.{TypeTree}
use Rattle.stk_tree.specs.declared.declaration.Storage.{Storage}
use Rattle.stk_tree.specs.declared.declaration.Storage.TheVariants as storage
use Rattle.stk_tree.specs.Syntax.{FunctionTree, DeclrTree, StmtTree, StmtFormTree}
use Rattle.stk_tree.specs.Syntax as s
use Rattle.stk_type_rules.specs.Facts.{Fact, Ruled, Breaks, Fits, plain}
use Rattle.stk_type_rules.specs.Outcome.{Outcome, Good, and_then, finish}
use Rattle.stk_typing.specs.Locals.{Local}
use Rattle.stk_typing.specs.Scope.{Scope}
use Rattle.stk_typing.specs.Arrays.{starred}
use Rattle.stk_typing.specs.Forms.{structs_in}
use Rattle.stk_typing.specs.Typing.{base_typed}
use Rattle.stk_declarators.specs.Parameters.{with_locals}
use Rattle.stk_declarators.specs.Tails.{tail_typed, tail_type}
use Rattle.stk_declarators.specs.Rows.{locals_in}
use Rattle.stk_function_types.specs.Bodies.{Body}
use Rattle.stk_function_types.specs.Statements.{form_typed, parts_typed}

-- the head of a function, and the parameters that it brings into force
pub record Headed : Type 0 where
  pub returns : TypeTree
  pub locals : List Local

abbrev pub head_typed : Scope → TypeTree → DeclrTree → Outcome Headed
head_typed scope t (s.declarator k count at tail init) =
    and_then (tail_typed scope true tail) (λ shape.
    and_then (finish k.number (tail_type (structs_in scope) true None (starred count t) shape)) (λ x.
    Good (record { returns = starred count t; locals = locals_in shape }) []))

-- the outermost block, in which the parameters stand too
abbrev pub outermost : Body → ℕ → StmtFormTree → Outcome Fact
outermost b k (s.block ps) = and_then (parts_typed b ps) (λ u. finish k (Fits plain))
outermost b k other = form_typed b k other

abbrev pub body_typed : Body → StmtTree → Outcome Fact
body_typed b (s.statement n f) = outermost b n.number f

-- what a body is typed under, with these names of file scope and these declarators whose names are operands of `&`
abbrev pub body_of : Scope → List ℕ → Headed → Body
body_of scope taken h = record { scope = with_locals scope h.locals; taken = taken; outer = 0; returns = h.returns; can_break = false; can_continue = false }

-- a function definition has no storage word `typedef`
abbrev pub storage_rule : Option Storage → Ruled
storage_rule None = Fits plain
storage_rule (Some storage.Typedef) = Breaks 15
storage_rule (Some storage.Extern) = Fits plain
storage_rule (Some storage.Static) = Fits plain

-- the names of file scope in force, and nothing else
abbrev pub outside : List ℕ → List NameEntry → Scope
outside bytes entries = record { bytes = bytes; entries = entries; locals = []; own = None }

-- a function definition whose unit has this number, with these declarators whose names are operands of `&`
abbrev pub function_typed : List ℕ → List NameEntry → List ℕ → ℕ → FunctionTree → Outcome Fact
function_typed bytes entries taken n (s.function word b d x) =
    and_then (base_typed (outside bytes entries) b) (λ named.
    and_then (head_typed (outside bytes entries) named.ty d) (λ h.
    and_then (body_typed (body_of (outside bytes entries) taken h) x) (λ u. finish n (storage_rule word))))
