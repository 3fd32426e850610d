-- Examples, by which the definitions can be checked: what some units declare, and which of their nodes are refused.
use Rattle.std.proofs.Common.{◌≡◌, ℕ, ◌+◌, true, false, List, [], ◌∷◌, Option, Some, None, refl}
use Rattle.std.specs.Prelude.{pos}
use Rattle.stk_base.specs.declared.span.Span.{Span}
use Rattle.stk_ctype.specs.declared.kind.IntKind.TheVariants as kind
use Rattle.stk_ctype.specs.declared.symbol.Symbol.TheVariants as symbol
use Rattle.stk_ctype.specs.declared.symbol.NameEntry.{NameEntry}
use Rattle.stk_ctype.specs.declared.symbol.NameEntry.TheVariants as entry
use Rattle.stk_ctype.specs.Types.{TypeTree, integer_type, pointer_type, array_type, struct_type, signature, no_types, then_type}
use Rattle.stk_tree.specs.declared.node.Node.{Node}
use Rattle.stk_tree.specs.declared.fixed.Fixed.TheVariants as fixed
use Rattle.stk_tree.specs.declared.declaration.Storage.{Storage}
use Rattle.stk_tree.specs.declared.declaration.Storage.TheVariants as storage
use Rattle.stk_tree.specs.Syntax.{BaseTree, DeclrTree, DeclrTrees, ExprTree, InitTree, ItemTrees, MaybeInitTree, ParamTree, StmtTree, TailTree, UnitTree}
use Rattle.stk_tree.specs.Syntax as s
use Rattle.stk_type_rules.specs.Facts.{Breaks, Fits, declares}
use Rattle.stk_type_rules.specs.Outcome.{Outcome, Good, Refused}
use Rattle.stk_compatible.specs.Making.{made, made_signature}
use Rattle.stk_compatible.specs.Agreeing.{agree}
use Rattle.stk_declare.specs.declared.symbols.SymbolSort.TheVariants.{Object}
use Rattle.stk_declare.specs.Symbols.{agreed_rule}
use Rattle.stk_declare.specs.Declaring.{unit_declared}

-- the text, in which names and numbers stand: `abst13`
abbrev text : List ℕ
text = 97 ∷ 98 ∷ 115 ∷ 116 ∷ 49 ∷ 51 ∷ []

abbrev at : ℕ → Span
at from = record { from = from; to = from + 1 }

abbrev node : ℕ → Node
node k = record { number = k; span = at 0 }

-- the entries that are in force behind a unit, where it isn't refused
abbrev in_force : Outcome (List NameEntry) → Option (List NameEntry)
in_force (Good es facts) = Some es
in_force (Refused n r) = None

-- the node that is refused, and the rule
abbrev refused : Outcome (List NameEntry) → Option (ℕ × ℕ)
refused (Good es facts) = None
refused (Refused n r) = Some (n, r)

abbrev int_base : ℕ → BaseTree
int_base k = s.base (node k) (s.words (fixed.Int ∷ []))

abbrev plain_tail : TailTree
plain_tail = s.arrays s.no_dimensions

abbrev open_tail : TailTree
open_tail = s.arrays (s.then_dimension s.open_dimension s.no_dimensions)

abbrev number : ℕ → ℕ → ExprTree
number k from = s.expression (node k) (s.number (at from))

abbrev alone : DeclrTree → DeclrTrees
alone d = s.then_declarator d s.no_declarators

abbrev one : Option Storage → BaseTree → DeclrTree → UnitTree
one word b d = s.declares (node 20) (s.declaration word b (alone d))

-- `a` or `b` under a tail, without an initialiser
abbrev named : ℕ → ℕ → TailTree → DeclrTree
named k from tail = s.declarator (node k) 0 (Some (at from)) tail s.no_initialiser

abbrev int_type : TypeTree
int_type = integer_type kind.Int

-- `int a;`
int_declared : in_force (unit_declared text false [] (one None (int_base 0) (named 1 0 plain_tail))) ≡ Some (entry.Symbol (97 ∷ []) (symbol.Object (made int_type)) ∷ [])
int_declared = refl

-- the same once more, and `long a;` behind it
int_agrees : agreed_rule [] None Object s.no_initialiser int_type (agree int_type int_type) ≡ Fits (declares int_type)
int_agrees = refl

long_differs : agreed_rule [] None Object s.no_initialiser (integer_type kind.Long) (agree int_type (integer_type kind.Long)) ≡ Breaks 3
long_differs = refl

-- `int a[];`, `extern int a[];`, `int a[] = {1, 3};`
open_refused : refused (unit_declared text false [] (one None (int_base 0) (named 1 0 open_tail))) ≡ Some (1, 4)
open_refused = refl

extern_open : in_force (unit_declared text false [] (one (Some storage.Extern) (int_base 0) (named 1 0 open_tail))) ≡ Some (entry.Symbol (97 ∷ []) (symbol.Object (made (array_type int_type None))) ∷ [])
extern_open = refl

abbrev two_items : MaybeInitTree
two_items = s.some_initialiser (s.braces (s.then_item (s.item s.no_designators (s.plain (number 1 4))) (s.then_item (s.item s.no_designators (s.plain (number 2 5))) s.no_items)) false)

counted : in_force (unit_declared text false [] (one None (int_base 0) (s.declarator (node 3) 0 (Some (at 0)) open_tail two_items))) ≡ Some (entry.Symbol (97 ∷ []) (symbol.Object (made (array_type int_type (Some 2)))) ∷ [])
counted = refl

-- `struct s;`
struct_named : in_force (unit_declared text false [] (s.declares (node 20) (s.declaration None (s.base (node 2) (s.struct_ref (at 2))) s.no_declarators))) ≡ Some (entry.Struct (Some (115 ∷ [])) ∷ [])
struct_named = refl

-- `enum { a, b = 3 } ;`, `enum { a, a };`
enumeration : in_force (unit_declared text false [] (s.declares (node 20) (s.declaration None (s.base (node 1) (s.enum_def None (s.then_enumerator (s.enumerator (at 0) s.no_expression) (s.then_enumerator (s.enumerator (at 1) (s.some_expression (number 0 5))) s.no_enumerators)) false)) s.no_declarators)))
    ≡ Some (entry.Symbol (97 ∷ []) (symbol.Enumerator (pos 0)) ∷ entry.Symbol (98 ∷ []) (symbol.Enumerator (pos 3)) ∷ [])
enumeration = refl

enumerator_twice : refused (unit_declared text false [] (s.declares (node 20) (s.declaration None (s.base (node 1) (s.enum_def None (s.then_enumerator (s.enumerator (at 0) s.no_expression) (s.then_enumerator (s.enumerator (at 0) s.no_expression) s.no_enumerators)) false)) s.no_declarators))) ≡ Some (1, 3)
enumerator_twice = refl

-- `int b(struct t *a);`
abbrev pointer_parameter : ParamTree
pointer_parameter = s.parameter (node 3) (s.base (node 1) (s.struct_ref (at 3))) (s.declarator (node 2) 1 (Some (at 0)) plain_tail s.no_initialiser)

function_declared : in_force (unit_declared text true [] (one None (int_base 0) (s.declarator (node 4) 0 (Some (at 1)) (s.with_parameters (s.then_parameter pointer_parameter s.no_parameters) false) s.no_initialiser)))
    ≡ Some (entry.Struct (Some (116 ∷ [])) ∷ entry.Symbol (98 ∷ []) (symbol.Function (made_signature (signature int_type (then_type (pointer_type (struct_type 0)) no_types) false true))) ∷ [])
function_declared = refl

-- `typedef int b(int) {}`: the parameter without a name comes first
abbrev empty_body : StmtTree
empty_body = s.statement (node 5) (s.block s.no_parts)

abbrev unnamed_parameter : ParamTree
unnamed_parameter = s.parameter (node 3) (int_base 1) (s.declarator (node 2) 0 None plain_tail s.no_initialiser)

definition_refused : refused (unit_declared text false [] (s.defines (node 6) (s.function (Some storage.Typedef) (int_base 0) (s.declarator (node 4) 0 (Some (at 1)) (s.with_parameters (s.then_parameter unnamed_parameter s.no_parameters) false) s.no_initialiser) empty_body))) ≡ Some (4, 15)
definition_refused = refl

typedef_refused : refused (unit_declared text false [] (s.defines (node 6) (s.function (Some storage.Typedef) (int_base 0) (s.declarator (node 4) 0 (Some (at 1)) s.void_parameters s.no_initialiser) empty_body))) ≡ Some (6, 15)
typedef_refused = refl
