-- Reading declarations from left to right: what the readers compute, over lexemes (C11 6.7). Only contracts of private
-- functions speak of it. `named` says whether the word at a span is a typedef name, and `room` is the nesting that a
-- tree may have. A number of turns bounds each row; it is more than the tokens that are left.
use Rattle.std.specs.Prelude.{ℕ, zero, suc, Bool, true, false, cond, nat_le, List, [], ◌∷◌, length, Option, Some, None}
use Rattle.stk_base.specs.declared.span.Span.{Span}
use Rattle.stk_base.specs.declared.token.Class.TheVariants.{Word}
use Rattle.stk_tree.specs.Levels.{assignment_level, conditional_level}
use Rattle.stk_tree.specs.declared.fixed.Fixed.{Fixed}
use Rattle.stk_tree.specs.declared.fixed.Fixed.TheVariants as fixed
use Rattle.stk_tree.specs.declared.fixed.Lexeme.{Lexeme}
use Rattle.stk_tree.specs.declared.fixed.Lexeme.TheVariants.{Leaf, Fixed as Token}
use Rattle.stk_tree.specs.declared.declaration.Storage.{Storage}
use Rattle.stk_tree.specs.declared.declaration.Storage.TheVariants.{Typedef, Extern, Static}
use Rattle.stk_tree.specs.Nesting.{declarator_nesting, designators_nesting}
use Rattle.stk_tree.specs.Placed.{is_basic, local_storage}
use Rattle.stk_tree.specs.Syntax.{BaseFormTree, BaseTree, DeclarationTree, DeclrTree, DeclrTrees, DesigTree, DesigTrees, EnumrTree, EnumrTrees, InitTree, ItemTree, ItemTrees, MaybeExprTree, MaybeInitTree, MemberTree, MemberTrees, ParamTree, ParamTrees, TailTree}
use Rattle.stk_tree.specs.Syntax as s
use Rattle.stk_tree.specs.Unlaid.{no_node}
use Rattle.stk_grammar.specs.Reading.{◌>>=◌, Found, base_at, behind_assign, behind_comma, behind_dot, behind_ellipsis, behind_left_brace, behind_left_bracket, behind_left_paren, behind_right_brace, behind_right_bracket, behind_right_paren, behind_semicolon, dimensions_at, stars_at, word_at, words_at, words_base}
use Rattle.stk_grammar.specs.Stopped.{stopped_at}

-- a reader of one thing
abbrev pub Reader : Type 0 → Type 0
Reader A = List Lexeme → Found A

-- ---- names

abbrev pub unless_named : (Span → Bool) → Span × List Lexeme → Found Span
unless_named named w = cond (named w.0) None (Some w)

-- a name: a word that is no typedef name
abbrev pub name_at : (Span → Bool) → Reader Span
name_at named ts = word_at ts >>= unless_named named

-- a word that may be missing
abbrev pub optional_word_at : List Lexeme → Option Span × List Lexeme
optional_word_at (Leaf Word at ∷ ts) = (Some at, ts)
optional_word_at ts = (None, ts)

abbrev pub optional_name_on : (Span → Bool) → Option Span × List Lexeme → Found (Option Span)
optional_name_on named (Some at, ts) = cond (named at) None (Some (Some at, ts))
optional_name_on named (None, ts) = Some (None, ts)

-- a name that may be missing
abbrev pub optional_name_at : (Span → Bool) → Reader (Option Span)
optional_name_at named ts = optional_name_on named (optional_word_at ts)

-- a name, which may be missing where `nameless` says so
abbrev pub declared_name_at : (Span → Bool) → Bool → Reader (Option Span)
declared_name_at named true ts = optional_name_at named ts
declared_name_at named false ts = name_at named ts >>= λ w. Some (Some w.0, w.1)

-- ---- declarators without parameters and initialisers: those of members and of parameters

-- a declarator, where it isn't too high
abbrev pub low_declarator : ℕ → DeclrTree → List Lexeme → Found DeclrTree
low_declarator room d rest = cond (nat_le (declarator_nesting d) room) (Some (d, rest)) None

abbrev pub arrays_behind : (Span → Bool) → ℕ → ℕ → Option Span → List Lexeme → Found DeclrTree
arrays_behind named room count at ts = dimensions_at (stopped_at named room) (suc (length ts)) ts
    >>= λ ds. low_declarator room (s.declarator no_node count at (s.arrays ds.0) s.no_initialiser) ds.1

abbrev pub array_name_behind : (Span → Bool) → ℕ → Bool → ℕ × List Lexeme → Found DeclrTree
array_name_behind named room nameless x = declared_name_at named nameless x.1 >>= λ at. arrays_behind named room x.0 at.0 at.1

-- `* .. [name] arrays`
unfoldable pub array_declarator_at : (Span → Bool) → ℕ → Bool → Reader DeclrTree
array_declarator_at named room nameless ts = array_name_behind named room nameless (stars_at 0 ts)

-- ---- parameters (C11 6.7.6.3)

-- a parameter: its base has no braces. Its node takes a level.
unfoldable pub parameter_at : (Span → Bool) → ℕ → Reader ParamTree
parameter_at named zero ts = None
parameter_at named (suc inner) ts = base_at named ts >>= λ b. array_declarator_at named inner true b.1 >>= λ d. Some (s.parameter no_node (s.base no_node b.0) d.0, d.1)

-- the `...` behind a comma, and the `)` behind it
abbrev pub more_ends : List Lexeme → Option (List Lexeme)
more_ends ts = behind_ellipsis ts >>= behind_right_paren

-- what stands behind a comma: the end, or one more parameter
abbrev pub parameters_go : Reader (ParamTrees × Bool) → Reader ParamTree → Option (List Lexeme) → List Lexeme → Found (ParamTrees × Bool)
parameters_go go_on one (Some rest) ts = Some ((s.no_parameters, true), rest)
parameters_go go_on one None ts = one ts >>= λ x. go_on x.1 >>= λ xs. Some ((s.then_parameter x.0 xs.0.0, xs.0.1), xs.1)

abbrev pub parameters_on : Reader (ParamTrees × Bool) → Reader ParamTree → Option (List Lexeme) → List Lexeme → Found (ParamTrees × Bool)
parameters_on go_on one None ts = behind_right_paren ts >>= λ rest. Some ((s.no_parameters, false), rest)
parameters_on go_on one (Some next) ts = parameters_go go_on one (more_ends next) next

-- parameters with a comma before each, whether `, ...` follows them, and the `)`
unfoldable pub more_parameters_at : Reader ParamTree → ℕ → Reader (ParamTrees × Bool)
more_parameters_at one zero ts = None
more_parameters_at one (suc f) ts = parameters_on (more_parameters_at one f) one (behind_comma ts) ts

-- one parameter or more, whether `, ...` follows them, and the `)`
unfoldable pub parameters_at : Reader ParamTree → Reader TailTree
parameters_at one ts = one ts >>= λ x. more_parameters_at one (suc (length x.1)) x.1 >>= λ xs. Some (s.with_parameters (s.then_parameter x.0 xs.0.0) xs.0.1, xs.1)

-- the `void` of `(void)`, and the `)` behind it
abbrev pub behind_void : List Lexeme → Option (List Lexeme)
behind_void (Token fixed.Void ∷ ts) = behind_right_paren ts
behind_void ts = None

abbrev pub parameters_from : Reader ParamTree → Option (List Lexeme) → Option (List Lexeme) → List Lexeme → Found TailTree
parameters_from one (Some rest) void ts = Some (s.unspecified, rest)
parameters_from one None (Some rest) ts = Some (s.void_parameters, rest)
parameters_from one None None ts = parameters_at one ts

-- `)`, `void )` or parameters, behind the `(`
unfoldable pub parameter_tail_at : Reader ParamTree → Reader TailTree
parameter_tail_at one ts = parameters_from one (behind_right_paren ts) (behind_void ts) ts

-- ---- initialisers (C11 6.7.9)

-- a designator: `.member` or `[e]`
abbrev pub designator_on : (Span → Bool) → ℕ → Option (List Lexeme) → Option (List Lexeme) → Found DesigTree
designator_on named room (Some inside) bracket = word_at inside >>= λ w. Some (s.dot_designator w.0, w.1)
designator_on named room None (Some inside) = stopped_at named room conditional_level inside >>= λ e. behind_right_bracket e.1 >>= λ rest. Some (s.at_designator e.0, rest)
designator_on named room None None = None

-- whether a designator begins here
abbrev pub begins_designator : List Lexeme → Bool
begins_designator (Token fixed.Dot ∷ ts) = true
begins_designator (Token fixed.LeftBracket ∷ ts) = true
begins_designator ts = false

unfoldable pub designator_at : (Span → Bool) → ℕ → Reader DesigTree
designator_at named room ts = designator_on named room (behind_dot ts) (behind_left_bracket ts)

abbrev pub designators_on : Reader DesigTrees → Reader DesigTree → Bool → List Lexeme → Found DesigTrees
designators_on go_on one false ts = Some (s.no_designators, ts)
designators_on go_on one true ts = one ts >>= λ d. go_on d.1 >>= λ ds. Some (s.then_designator d.0 ds.0, ds.1)

-- designators in a row
unfoldable pub designators_at : Reader DesigTree → ℕ → Reader DesigTrees
designators_at one zero ts = None
designators_at one (suc f) ts = designators_on (designators_at one f) one (begins_designator ts) ts

-- the `=` behind designators, where there are any
abbrev pub behind_path : DesigTrees → List Lexeme → Option (List Lexeme)
behind_path s.no_designators ts = Some ts
behind_path (s.then_designator d ds) ts = behind_assign ts

-- a path that isn't too high
abbrev pub low_path : ℕ → DesigTrees → List Lexeme → Found DesigTrees
low_path room ds ts = cond (nat_le (designators_nesting ds) room) (behind_path ds ts >>= λ rest. Some (ds, rest)) None

-- the designators of an item, with their `=`
unfoldable pub path_at : (Span → Bool) → ℕ → Reader DesigTrees
path_at named room ts = designators_at (designator_at named room) (suc (length ts)) ts >>= λ ds. low_path room ds.0 ds.1

-- an item of an initialiser's braces
abbrev pub item_at : Reader DesigTrees → Reader InitTree → Reader ItemTree
item_at path init ts = path ts >>= λ ds. init ds.1 >>= λ i. Some (s.item ds.0 i.0, i.1)

-- what stands behind a comma: the brace, or one more item
abbrev pub items_go : Reader (ItemTrees × Bool) → Reader ItemTree → Option (List Lexeme) → List Lexeme → Found (ItemTrees × Bool)
items_go go_on one (Some rest) ts = Some ((s.no_items, true), rest)
items_go go_on one None ts = one ts >>= λ x. go_on x.1 >>= λ xs. Some ((s.then_item x.0 xs.0.0, xs.0.1), xs.1)

abbrev pub items_on : Reader (ItemTrees × Bool) → Reader ItemTree → Option (List Lexeme) → List Lexeme → Found (ItemTrees × Bool)
items_on go_on one None ts = behind_right_brace ts >>= λ rest. Some ((s.no_items, false), rest)
items_on go_on one (Some next) ts = items_go go_on one (behind_right_brace next) next

-- items with a comma before each, whether a last comma follows them, and the `}`
unfoldable pub more_items_at : Reader ItemTree → ℕ → Reader (ItemTrees × Bool)
more_items_at one zero ts = None
more_items_at one (suc f) ts = items_on (more_items_at one f) one (behind_comma ts) ts

abbrev pub items_from : Reader ItemTree → Option (List Lexeme) → List Lexeme → Found (ItemTrees × Bool)
items_from one (Some rest) ts = Some ((s.no_items, false), rest)
items_from one None ts = one ts >>= λ x. more_items_at one (suc (length x.1)) x.1 >>= λ xs. Some ((s.then_item x.0 xs.0.0, xs.0.1), xs.1)

-- items and the `}`, behind the `{`
unfoldable pub items_at : Reader ItemTree → Reader (ItemTrees × Bool)
items_at one ts = items_from one (behind_right_brace ts) ts

abbrev pub initialiser_on : Reader (ItemTrees × Bool) → (Span → Bool) → ℕ → Option (List Lexeme) → List Lexeme → Found InitTree
initialiser_on items named room (Some inside) ts = items inside >>= λ x. Some (s.braces x.0.0 x.0.1, x.1)
initialiser_on items named room None ts = stopped_at named room assignment_level ts >>= λ e. Some (s.plain e.0, e.1)

-- an initialiser, of at most this nesting
unfoldable pub initialiser_at : (Span → Bool) → ℕ → Reader InitTree
initialiser_at named zero ts = None
initialiser_at named (suc inner) ts = initialiser_on (items_at (item_at (path_at named inner) (initialiser_at named inner))) named (suc inner) (behind_left_brace ts) ts

abbrev pub optional_initialiser : Reader InitTree → Option (List Lexeme) → List Lexeme → Found MaybeInitTree
optional_initialiser init None ts = Some (s.no_initialiser, ts)
optional_initialiser init (Some next) ts = init next >>= λ i. Some (s.some_initialiser i.0, i.1)

-- the initialiser that may follow a declarator
abbrev pub initial_at : (Span → Bool) → ℕ → Reader MaybeInitTree
initial_at named room ts = optional_initialiser (initialiser_at named room) (behind_assign ts) ts

-- ---- declarators (C11 6.7.6)

-- parameters only at file scope
abbrev pub tail_on : (Span → Bool) → ℕ → Bool → Option (List Lexeme) → List Lexeme → Found TailTree
tail_on named room true (Some inside) ts = parameter_tail_at (parameter_at named room) inside
tail_on named room false (Some inside) ts = None
tail_on named room file None ts = dimensions_at (stopped_at named room) (suc (length ts)) ts >>= λ ds. Some (s.arrays ds.0, ds.1)

-- what follows the name of a declarator
abbrev pub declared_tail_at : (Span → Bool) → ℕ → Bool → Reader TailTree
declared_tail_at named room file ts = tail_on named room file (behind_left_paren ts) ts

abbrev pub declarator_behind : (Span → Bool) → ℕ → Bool → ℕ → Span × List Lexeme → Found DeclrTree
declarator_behind named inner file count w = declared_tail_at named inner file w.1
    >>= λ t. initial_at named inner t.1
    >>= λ i. low_declarator (suc inner) (s.declarator no_node count (Some w.0) t.0 i.0) i.1

abbrev pub declarator_name_behind : (Span → Bool) → ℕ → Bool → ℕ × List Lexeme → Found DeclrTree
declarator_name_behind named inner file x = name_at named x.1 >>= declarator_behind named inner file x.0

-- a declarator with its initialiser: `* .. name (arrays or parameters) [= initialiser]`
unfoldable pub declarator_at : (Span → Bool) → ℕ → Bool → Reader DeclrTree
declarator_at named zero file ts = None
declarator_at named (suc inner) file ts = declarator_name_behind named inner file (stars_at 0 ts)

-- ---- declarators with a comma between each two, and the `;` behind them

abbrev pub declarators_on : Reader DeclrTrees → Reader DeclrTree → Option (List Lexeme) → List Lexeme → Found DeclrTrees
declarators_on go_on one None ts = behind_semicolon ts >>= λ rest. Some (s.no_declarators, rest)
declarators_on go_on one (Some next) ts = one next >>= λ x. go_on x.1 >>= λ xs. Some (s.then_declarator x.0 xs.0, xs.1)

unfoldable pub more_declarators_at : Reader DeclrTree → ℕ → Reader DeclrTrees
more_declarators_at one zero ts = None
more_declarators_at one (suc f) ts = declarators_on (more_declarators_at one f) one (behind_comma ts) ts

-- one declarator or more, and the `;`
unfoldable pub declarators_at : Reader DeclrTree → Reader DeclrTrees
declarators_at one ts = one ts >>= λ x. more_declarators_at one (suc (length x.1)) x.1 >>= λ xs. Some (s.then_declarator x.0 xs.0, xs.1)

-- ---- bases with braces (C11 6.7.2)

-- the members of one base
abbrev pub member_at : (Span → Bool) → ℕ → Reader BaseFormTree → Reader MemberTree
member_at named room base ts = base ts >>= λ b. declarators_at (array_declarator_at named room false) b.1 >>= λ ds. Some (s.member (s.base no_node b.0) ds.0, ds.1)

abbrev pub members_on : Reader MemberTrees → Reader MemberTree → Option (List Lexeme) → List Lexeme → Found MemberTrees
members_on go_on one (Some rest) ts = Some (s.no_members, rest)
members_on go_on one None ts = one ts >>= λ x. go_on x.1 >>= λ xs. Some (s.then_member x.0 xs.0, xs.1)

-- members and the `}`
unfoldable pub more_members_at : Reader MemberTree → ℕ → Reader MemberTrees
more_members_at one zero ts = None
more_members_at one (suc f) ts = members_on (more_members_at one f) one (behind_right_brace ts) ts

-- one member or more, and the `}`, behind the `{`
unfoldable pub members_at : Reader MemberTree → Reader MemberTrees
members_at one ts = one ts >>= λ x. more_members_at one (suc (length x.1)) x.1 >>= λ xs. Some (s.then_member x.0 xs.0, xs.1)

abbrev pub optional_value : (Span → Bool) → ℕ → Option (List Lexeme) → List Lexeme → Found MaybeExprTree
optional_value named room None ts = Some (s.no_expression, ts)
optional_value named room (Some next) ts = stopped_at named room conditional_level next >>= λ e. Some (s.some_expression e.0, e.1)

-- the value that may be given to an enumerator
abbrev pub value_at : (Span → Bool) → ℕ → Reader MaybeExprTree
value_at named room ts = optional_value named room (behind_assign ts) ts

unfoldable pub enumerator_at : (Span → Bool) → ℕ → Reader EnumrTree
enumerator_at named room ts = name_at named ts >>= λ w. value_at named room w.1 >>= λ e. Some (s.enumerator w.0 e.0, e.1)

-- what stands behind a comma: the brace, or one more enumerator
abbrev pub enumerators_go : Reader (EnumrTrees × Bool) → Reader EnumrTree → Option (List Lexeme) → List Lexeme → Found (EnumrTrees × Bool)
enumerators_go go_on one (Some rest) ts = Some ((s.no_enumerators, true), rest)
enumerators_go go_on one None ts = one ts >>= λ x. go_on x.1 >>= λ xs. Some ((s.then_enumerator x.0 xs.0.0, xs.0.1), xs.1)

abbrev pub enumerators_on : Reader (EnumrTrees × Bool) → Reader EnumrTree → Option (List Lexeme) → List Lexeme → Found (EnumrTrees × Bool)
enumerators_on go_on one None ts = behind_right_brace ts >>= λ rest. Some ((s.no_enumerators, false), rest)
enumerators_on go_on one (Some next) ts = enumerators_go go_on one (behind_right_brace next) next

-- enumerators with a comma before each, whether a last comma follows them, and the `}`
unfoldable pub more_enumerators_at : Reader EnumrTree → ℕ → Reader (EnumrTrees × Bool)
more_enumerators_at one zero ts = None
more_enumerators_at one (suc f) ts = enumerators_on (more_enumerators_at one f) one (behind_comma ts) ts

-- one enumerator or more, and the `}`, behind the `{`
unfoldable pub enumerators_at : Reader EnumrTree → Reader (EnumrTrees × Bool)
enumerators_at one ts = one ts >>= λ x. more_enumerators_at one (suc (length x.1)) x.1 >>= λ xs. Some ((s.then_enumerator x.0 xs.0.0, xs.0.1), xs.1)

-- a `struct`: with braces, or with a tag alone
abbrev pub struct_on : Reader MemberTrees → Option Span → List Lexeme → Option (List Lexeme) → Found BaseFormTree
struct_on members tag ts (Some inside) = members inside >>= λ ms. Some (s.struct_def tag ms.0, ms.1)
struct_on members (Some tag) ts None = Some (s.struct_ref tag, ts)
struct_on members None ts None = None

abbrev pub struct_behind : Reader MemberTrees → Option Span × List Lexeme → Found BaseFormTree
struct_behind members x = struct_on members x.0 x.1 (behind_left_brace x.1)

-- an `enum`: with braces, or with a tag alone
abbrev pub enum_on : Reader (EnumrTrees × Bool) → Option Span → List Lexeme → Option (List Lexeme) → Found BaseFormTree
enum_on enumerators tag ts (Some inside) = enumerators inside >>= λ es. Some (s.enum_def tag es.0.0 es.0.1, es.1)
enum_on enumerators (Some tag) ts None = Some (s.enum_ref tag, ts)
enum_on enumerators None ts None = None

abbrev pub enum_behind : Reader (EnumrTrees × Bool) → Option Span × List Lexeme → Found BaseFormTree
enum_behind enumerators x = enum_on enumerators x.0 x.1 (behind_left_brace x.1)

-- a base that begins with a reserved word
abbrev pub full_base_on : Reader MemberTrees → Reader (EnumrTrees × Bool) → Fixed → List Lexeme → Found BaseFormTree
full_base_on members enumerators fixed.Struct ts = struct_behind members (optional_word_at ts)
full_base_on members enumerators fixed.Enum ts = enum_behind enumerators (optional_word_at ts)
full_base_on members enumerators f ts = cond (is_basic f) (words_base f (words_at ts)) None

abbrev pub full_base_from : (Span → Bool) → Reader MemberTrees → Reader (EnumrTrees × Bool) → Reader BaseFormTree
full_base_from named members enumerators [] = None
full_base_from named members enumerators (Leaf Word at ∷ ts) = cond (named at) (Some (s.named at, ts)) None
full_base_from named members enumerators (Leaf class at ∷ ts) = None
full_base_from named members enumerators (Token f ∷ ts) = full_base_on members enumerators f ts

-- a base that may have braces, of at most this nesting
unfoldable pub full_base_at : (Span → Bool) → ℕ → Reader BaseFormTree
full_base_at named zero ts = None
full_base_at named (suc inner) ts = full_base_from named (members_at (member_at named inner (full_base_at named inner))) (enumerators_at (enumerator_at named inner)) ts

-- ---- declarations (C11 6.7)

-- a storage word that may be missing
abbrev pub storage_at : List Lexeme → Option Storage × List Lexeme
storage_at (Token fixed.Typedef ∷ ts) = (Some Typedef, ts)
storage_at (Token fixed.Extern ∷ ts) = (Some Extern, ts)
storage_at (Token fixed.Static ∷ ts) = (Some Static, ts)
storage_at ts = (None, ts)

-- at file scope there may be no declarator
abbrev pub file_declarators_on : Reader DeclrTree → Option (List Lexeme) → List Lexeme → Found DeclrTrees
file_declarators_on one (Some rest) ts = Some (s.no_declarators, rest)
file_declarators_on one None ts = declarators_at one ts

abbrev pub file_declarators_at : Reader DeclrTree → Reader DeclrTrees
file_declarators_at one ts = file_declarators_on one (behind_semicolon ts) ts

abbrev pub file_behind : (Span → Bool) → ℕ → Option Storage × List Lexeme → Found DeclarationTree
file_behind named room w = full_base_at named room w.1 >>= λ b. file_declarators_at (declarator_at named room true) b.1 >>= λ ds. Some (s.declaration w.0 (s.base no_node b.0) ds.0, ds.1)

abbrev pub local_behind : (Span → Bool) → ℕ → Option Storage × List Lexeme → Found DeclarationTree
local_behind named room w = base_at named w.1 >>= λ b. declarators_at (declarator_at named room false) b.1 >>= λ ds. Some (s.declaration w.0 (s.base no_node b.0) ds.0, ds.1)

abbrev pub local_on : (Span → Bool) → ℕ → Option Storage × List Lexeme → Found DeclarationTree
local_on named room w = cond (local_storage w.0) (local_behind named room w) None

-- a declaration with its `;`, of at most this nesting: at file scope, or in a block
unfoldable pub declaration_at : (Span → Bool) → Bool → ℕ → Reader DeclarationTree
declaration_at named true room ts = file_behind named room (storage_at ts)
declaration_at named false zero ts = None
declaration_at named false (suc inner) ts = local_on named (suc inner) (storage_at ts)

-- ---- what stands before the body of a function (C11 6.9.1)

-- the declarator of a function: `* .. name parameters`
abbrev pub function_tail : (Span → Bool) → ℕ → ℕ → Span × List Lexeme → Found DeclrTree
function_tail named inner count w = behind_left_paren w.1
    >>= parameter_tail_at (parameter_at named inner)
    >>= λ t. low_declarator (suc inner) (s.declarator no_node count (Some w.0) t.0 s.no_initialiser) t.1

abbrev pub function_name_behind : (Span → Bool) → ℕ → ℕ × List Lexeme → Found DeclrTree
function_name_behind named inner x = name_at named x.1 >>= function_tail named inner x.0

unfoldable pub function_declarator_at : (Span → Bool) → ℕ → Reader DeclrTree
function_declarator_at named zero ts = None
function_declarator_at named (suc inner) ts = function_name_behind named inner (stars_at 0 ts)

-- one declarator behind a storage word and a base
abbrev pub front_behind : (Span → Bool) → ℕ → Option Storage × List Lexeme → Found DeclarationTree
front_behind named room w = base_at named w.1 >>= λ b. function_declarator_at named room b.1
    >>= λ d. Some (s.declaration w.0 (s.base no_node b.0) (s.then_declarator d.0 s.no_declarators), d.1)

-- the front, where a body follows it
abbrev pub if_body : DeclarationTree × List Lexeme → Found DeclarationTree
if_body x = behind_left_brace x.1 >>= λ inside. Some x

-- what stands before the body, as a declaration with this one declarator, of at most this nesting
unfoldable pub front_at : (Span → Bool) → ℕ → Reader DeclarationTree
front_at named room ts = front_behind named room (storage_at ts) >>= if_body
