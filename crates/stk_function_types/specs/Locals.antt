-- Local declarations (C11 6.7, 6.2.1): a local is in force from the end of its declarator, before its initialiser.
use Rattle.std.specs.Prelude.{ℕ, zero, suc, Bool, true, false, not, ◌&&◌, ◌||◌, if◌then◌else◌, List, [], ◌∷◌, ◌++◌, Option, Some, None}
use Rattle.stk_base.specs.declared.span.Span.{Span}
use Rattle.stk_base.specs.Text.{text_of}
use Rattle.stk_ctype.specs.Types.{TypeTree, void_type}
use Rattle.stk_ctype.specs.Structs.{Structs}
use Rattle.stk_tree.specs.Syntax.{DeclrTree, DeclrTrees, DeclarationTree, InitTree, MaybeInitTree}
use Rattle.stk_tree.specs.Syntax as s
use Rattle.stk_tree.specs.Nodes.{initialiser_nodes}
use Rattle.stk_tree.specs.Parts.{is_static}
use Rattle.stk_type_rules.specs.Facts.{Fact, Ruled, Breaks, Fits, plain}
use Rattle.stk_type_rules.specs.Outcome.{Outcome, Good, and_then, finish}
use Rattle.stk_type_rules.specs.Types.{is_complete, is_scalar}
use Rattle.stk_typing.specs.declared.arrays.Size.{Size}
use Rattle.stk_typing.specs.Locals.{Local}
use Rattle.stk_typing.specs.Scope.{Scope, unevaluated}
use Rattle.stk_typing.specs.Arrays.{starred, declared_type, is_open}
use Rattle.stk_typing.specs.Forms.{structs_in}
use Rattle.stk_typing.specs.Typing.{base_typed, dimensions_typed}
use Rattle.stk_typing.specs.declared.initialiser_leaves.Leaves.{Leaves}
use Rattle.stk_typing.specs.Leaves.{no_leaf}
use Rattle.stk_typing.specs.InitialiserTyping.{initialiser_typed}
use Rattle.stk_typing.specs.Fitting.{fits, initial_refused}
use Rattle.stk_declarators.specs.Counting.{given_count}
use Rattle.stk_declarators.specs.Parameters.{array_parts, with_locals}
use Rattle.stk_declarators.specs.Tails.{counted_sizes, are_scalars}
use Rattle.stk_address_taken.specs.Sets.{is_listed}
use Rattle.stk_function_types.specs.Bodies.{Body, with_more, is_in_block}

-- the name of a declarator
abbrev pub local_name : List ℕ → Option Span → List ℕ
local_name bytes None = []
local_name bytes (Some at) = text_of bytes at

-- whether a rule refuses a node
abbrev pub is_refused : Ruled → Bool
is_refused (Breaks r) = true
is_refused (Fits x) = false

-- the type that a local has in its own initialiser; where its declarator makes none, the initialiser isn't typed, and
-- this says nothing
abbrev pub own_type : Ruled → TypeTree
own_type (Breaks r) = void_type
own_type (Fits x) = x.ty

-- a register is an automatic scalar whose name is no operand of `&`
abbrev pub is_local_register : Body → Bool → ℕ → TypeTree → Bool
is_local_register b static k t = not static && (is_scalar t && not (is_listed k b.taken))

-- so many nodes without a type
abbrev pub plain_nodes : ℕ → List Fact
plain_nodes zero = []
plain_nodes (suc n) = plain ∷ plain_nodes n

-- the names in force in the initialiser of a register
abbrev pub with_own : Scope → Bool → ℕ → Scope
with_own scope register k = record { bytes = scope.bytes; entries = scope.entries; locals = scope.locals; own = if register then Some k else None }

-- the names in force in the initialiser of a local, itself the last one
abbrev pub initial_scope : Body → Bool → Local → Scope
initial_scope b static l = with_own (with_locals b.scope (l ∷ [])) (is_local_register b static l.node l.ty) l.node

-- the initialiser of a local, which may be left without types
abbrev pub initial_typed : Body → Bool → Local → MaybeInitTree → Outcome Leaves
initial_typed b untyped l s.no_initialiser = Good no_leaf []
initial_typed b true l (s.some_initialiser i) = Good no_leaf (plain_nodes (initialiser_nodes i))
initial_typed b false l (s.some_initialiser i) = initialiser_typed (initial_scope b false l) i

-- the rule that an initialiser of an object of a type breaks; that of a `static` object goes by its form alone
abbrev pub refused_initial : Bool → InitTree → Leaves → TypeTree → Option ℕ
refused_initial true i leaves t = if fits t i then None else Some 16
refused_initial false i leaves t = initial_refused t i leaves

abbrev pub by_initial : Option ℕ → Fact → Ruled
by_initial None x = Fits x
by_initial (Some rule) x = Breaks rule

-- what its initialiser makes of an object
abbrev pub initial_rule : Bool → MaybeInitTree → Leaves → Fact → Ruled
initial_rule static s.no_initialiser leaves x = Fits x
initial_rule static (s.some_initialiser i) leaves x = by_initial (refused_initial static i leaves x.ty) x

-- a local object has a complete type
abbrev pub complete_rule : Structs → Bool → MaybeInitTree → Leaves → Ruled → Ruled
complete_rule structs static i leaves (Breaks r) = Breaks r
complete_rule structs static i leaves (Fits x) = if is_complete structs x.ty then initial_rule static i leaves x else Breaks 4

-- a local's declarator: its name is new in the block, and its outermost array part has a size
abbrev pub local_rule : Structs → Bool → Bool → Bool → MaybeInitTree → Leaves → Ruled → Ruled
local_rule structs twice lacking static i leaves made = if twice then Breaks 3 else (if lacking then Breaks 4 else complete_rule structs static i leaves made)

-- the outermost array part has no size, also none that is counted
abbrev pub lacks_size : Option ℕ → List Size → Bool
lacks_size (Some n) sizes = false
lacks_size None [] = false
lacks_size None (size ∷ sizes) = is_open size

-- the same rule, with how many elements the initialiser counts
abbrev pub counted_rule : Structs → Bool → Bool → MaybeInitTree → Leaves → List Size → TypeTree → Option ℕ → Ruled
counted_rule structs twice static i leaves sizes whole count = local_rule structs twice (lacks_size count sizes) static i leaves (declared_type structs (counted_sizes count sizes) whole)

-- a local's declarator behind its array parts and its initialiser, with the type that its base and stars name
abbrev pub declared_rule : List ℕ → Structs → Bool → Bool → MaybeInitTree → TypeTree → List Size → Leaves → Ruled
declared_rule bytes structs twice static i whole sizes leaves = counted_rule structs twice static i leaves sizes whole (given_count bytes (are_scalars sizes whole) i)

-- a local in its own initialiser, in which nothing is counted yet
abbrev pub own_local : Structs → List ℕ → ℕ → TypeTree → List Size → Local
own_local structs name k whole sizes = record { name = name; node = k; ty = own_type (declared_type structs sizes whole) }

-- the local of this name and declarator that this is known of
abbrev pub local_by : List ℕ → ℕ → Fact → List Local
local_by name k x = record { name = name; node = k; ty = x.ty } ∷ []

-- the initialiser of a `static` object isn't typed, nor is one whose local has no type, by what its array parts make
abbrev pub is_untyped : Bool → Ruled → Bool
is_untyped static made = static || is_refused made

-- a local's declarator behind its array parts: its initialiser, then itself
abbrev pub local_sized : Body → Bool → List ℕ → ℕ → TypeTree → MaybeInitTree → List Size → Outcome (List Local)
local_sized b static name k whole init sizes =
    and_then (initial_typed b (is_untyped static (declared_type (structs_in b.scope) sizes whole)) (own_local (structs_in b.scope) name k whole sizes) init) (λ leaves.
    and_then (finish k (declared_rule b.scope.bytes (structs_in b.scope) (is_in_block b name) static init whole sizes leaves)) (λ x.
    Good (local_by name k x) []))

-- a local's declarator, under a base that names a type
abbrev pub local_declared : Body → Bool → TypeTree → DeclrTree → Outcome (List Local)
local_declared b static t (s.declarator k count at tail init) =
    and_then (dimensions_typed (unevaluated b.scope) (array_parts tail)) (λ sizes. local_sized b static (local_name b.scope.bytes at) k.number (starred count t) init sizes)

-- declarators, each with those before it in force: the locals that they bring into force
abbrev pub locals_declared : Body → Bool → TypeTree → DeclrTrees → Outcome (List Local)
locals_declared b static t s.no_declarators = Good [] []
locals_declared b static t (s.then_declarator d ds) =
    and_then (local_declared b static t d) (λ l. and_then (locals_declared (with_more b l) static t ds) (λ ls. Good (l ++ ls) []))

abbrev pub declaration_typed : Body → DeclarationTree → Outcome (List Local)
declaration_typed b (s.declaration word specifiers ds) = and_then (base_typed b.scope specifiers) (λ x. locals_declared b (is_static word) x.ty ds)
