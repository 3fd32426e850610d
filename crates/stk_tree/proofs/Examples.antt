-- Examples, by which the definitions can be checked: what some trees print, how high they are, where they are well
-- placed, and a function's layout.
use Rattle.std.proofs.Common.{◌≡◌, ℕ, ◌+◌, true, false, List, [], ◌∷◌, Some, None, refl}
use Rattle.stk_base.specs.declared.span.Span.{Span}
use Rattle.stk_base.specs.declared.token.Class.TheVariants.{Word, Number}
use Rattle.stk_tree.specs.declared.node.Node.{Node}
use Rattle.stk_tree.specs.declared.fixed.Lexeme.{Lexeme}
use Rattle.stk_tree.specs.declared.fixed.Lexeme.TheVariants.{Leaf, Fixed as Token}
use Rattle.stk_tree.specs.declared.fixed.Fixed.TheVariants as fixed
use Rattle.stk_tree.specs.declared.expression.BinaryOp.TheVariants as binary
use Rattle.stk_tree.specs.declared.expression.AssignOp.TheVariants as assign
use Rattle.stk_tree.specs.declared.expression.UnaryOp.TheVariants as unary
use Rattle.stk_tree.specs.declared.expression.StepOp.TheVariants as step
use Rattle.stk_tree.specs.Height.{expression_height, declarator_height, initialiser_height, unit_height}
use Rattle.stk_tree.specs.Nesting.{declarator_nesting, initialiser_nesting}
use Rattle.stk_tree.specs.Layout.{unit_laid_out}
use Rattle.stk_tree.specs.Nodes.{unit_nodes}
use Rattle.stk_tree.specs.Placed.{expression_placed, statement_placed, tail_placed, type_name_placed, unit_placed}
use Rattle.stk_tree.specs.Syntax.{DeclrTree, InitTree, ExprTree, ExprFormTree, StmtTree, StmtFormTree, TypeNameTree, BaseTree, UnitTree}
use Rattle.stk_tree.specs.Syntax as s
use Rattle.stk_tree.specs.Tokens.{expression_tokens, statement_tokens, initialiser_tokens, base_tokens, unit_tokens}

abbrev at : ℕ → ℕ → Span
at from to = record { from = from; to = to }

abbrev unlaid : Node
unlaid = record { number = 0; span = record { from = 0; to = 0 } }

abbrev numbered : ℕ → ℕ → ℕ → Node
numbered n from to = record { number = n; span = record { from = from; to = to } }

abbrev e : ExprFormTree → ExprTree
e f = s.expression unlaid f

abbrev x : StmtFormTree → StmtTree
x f = s.statement unlaid f

-- the names a, b, c, at the bytes 0, 1, 2
abbrev a : ExprTree
a = e (s.name (at 0 1))

abbrev b : ExprTree
b = e (s.name (at 1 2))

abbrev c : ExprTree
c = e (s.name (at 2 3))

abbrev word : ℕ → Lexeme
word k = Leaf Word (at k (k + 1))

-- `int f(unsigned char x) { int y = 10 / x; if (x == 0) return 1; return y; }`
abbrev sample : UnitTree
sample =
    s.defines unlaid (s.function None (s.base unlaid (s.words (fixed.Int ∷ []))) (s.declarator unlaid 0 (Some (at 4 5)) (s.with_parameters (s.then_parameter
    (s.parameter unlaid (s.base unlaid (s.words (fixed.Unsigned ∷ fixed.Char ∷ []))) (s.declarator unlaid 0 (Some (at 20 21)) (s.arrays s.no_dimensions)
    s.no_initialiser)) s.no_parameters) false) s.no_initialiser) (s.statement unlaid (s.block (s.then_part (s.local (s.declaration None (s.base unlaid
    (s.words (fixed.Int ∷ []))) (s.then_declarator (s.declarator unlaid 0 (Some (at 29 30)) (s.arrays s.no_dimensions) (s.some_initialiser (s.plain
    (s.expression unlaid (s.binary binary.Div (s.expression unlaid (s.number (at 33 35))) (s.expression unlaid (s.name (at 38 39)))))))) s.no_declarators)))
    (s.then_part (s.run (s.statement unlaid (s.if_statement (s.expression unlaid (s.binary binary.Eq (s.expression unlaid (s.name (at 45 46))) (s.expression
    unlaid (s.number (at 50 51))))) (s.statement unlaid (s.return_statement (s.some_expression (s.expression unlaid (s.number (at 60 61))))))
    s.no_statement))) (s.then_part (s.run (s.statement unlaid (s.return_statement (s.some_expression (s.expression unlaid (s.name (at 70 71)))))))
    s.no_parts))))))

abbrev sample_spans : List Span
sample_spans =
    at 0 3 ∷ at 4 5 ∷ at 5 6 ∷ at 6 14 ∷ at 15 19 ∷ at 20 21 ∷ at 21 22 ∷ at 23 24 ∷ at 25 28 ∷ at 29 30 ∷ at 31 32 ∷ at 33 35 ∷ at 36 37 ∷ at 38 39 ∷
    at 39 40 ∷ at 41 43 ∷ at 44 45 ∷ at 45 46 ∷ at 47 49 ∷ at 50 51 ∷ at 51 52 ∷ at 53 59 ∷ at 60 61 ∷ at 61 62 ∷ at 63 69 ∷ at 70 71 ∷ at 71 72 ∷ at
    73 74 ∷ []

sample_prints : unit_tokens sample ≡
    Token fixed.Int ∷ Leaf Word (at 4 5) ∷ Token fixed.LeftParen ∷ Token fixed.Unsigned ∷ Token fixed.Char ∷ Leaf Word (at 20 21) ∷ Token
    fixed.RightParen ∷ Token fixed.LeftBrace ∷ Token fixed.Int ∷ Leaf Word (at 29 30) ∷ Token fixed.Assign ∷ Leaf Number (at 33 35) ∷ Token
    fixed.Slash ∷ Leaf Word (at 38 39) ∷ Token fixed.Semicolon ∷ Token fixed.If ∷ Token fixed.LeftParen ∷ Leaf Word (at 45 46) ∷ Token
    fixed.EqualEqual ∷ Leaf Number (at 50 51) ∷ Token fixed.RightParen ∷ Token fixed.Return ∷ Leaf Number (at 60 61) ∷ Token fixed.Semicolon ∷ Token
    fixed.Return ∷ Leaf Word (at 70 71) ∷ Token fixed.Semicolon ∷ Token fixed.RightBrace ∷ []
sample_prints = refl

-- 0 is the first `int`, 1 to 3 the parameter, 4 the declarator of f, 5 the second `int`, 6 to 9 the declarator of y, 10
-- to 15 the `if`, 16 and 17 the last `return`, 18 the block
sample_laid_out : unit_laid_out sample_spans sample ≡
    s.defines (numbered 19 0 74) (s.function None (s.base (numbered 0 0 3) (s.words (fixed.Int ∷ []))) (s.declarator (numbered 4 4 22) 0 (Some (at 4
    5)) (s.with_parameters (s.then_parameter (s.parameter (numbered 3 6 21) (s.base (numbered 1 6 19) (s.words (fixed.Unsigned ∷ fixed.Char ∷ [])))
    (s.declarator (numbered 2 20 21) 0 (Some (at 20 21)) (s.arrays s.no_dimensions) s.no_initialiser)) s.no_parameters) false) s.no_initialiser)
    (s.statement (numbered 18 23 74) (s.block (s.then_part (s.local (s.declaration None (s.base (numbered 5 25 28) (s.words (fixed.Int ∷ [])))
    (s.then_declarator (s.declarator (numbered 9 29 39) 0 (Some (at 29 30)) (s.arrays s.no_dimensions) (s.some_initialiser (s.plain (s.expression
    (numbered 8 33 39) (s.binary binary.Div (s.expression (numbered 6 33 35) (s.number (at 33 35))) (s.expression (numbered 7 38 39) (s.name (at 38
    39)))))))) s.no_declarators))) (s.then_part (s.run (s.statement (numbered 15 41 62) (s.if_statement (s.expression (numbered 12 45 51) (s.binary
    binary.Eq (s.expression (numbered 10 45 46) (s.name (at 45 46))) (s.expression (numbered 11 50 51) (s.number (at 50 51))))) (s.statement (numbered
    14 53 62) (s.return_statement (s.some_expression (s.expression (numbered 13 60 61) (s.number (at 60 61)))))) s.no_statement))) (s.then_part (s.run
    (s.statement (numbered 17 63 72) (s.return_statement (s.some_expression (s.expression (numbered 16 70 71) (s.name (at 70 71)))))))
    s.no_parts))))))
sample_laid_out = refl

sample_nodes : unit_nodes sample ≡ 20
sample_nodes = refl

-- unit, block, `if`, `x == 0`, `x`
sample_height : unit_height sample ≡ 5
sample_height = refl

sample_placed : unit_placed sample ≡ true
sample_placed = refl

-- `a(b, c)`
call_prints : expression_tokens (e (s.call a (s.then_expression b (s.then_expression c s.no_expressions)))) ≡
    word 0 ∷ Token fixed.LeftParen ∷ word 1 ∷ Token fixed.Comma ∷ word 2 ∷ Token fixed.RightParen ∷ []
call_prints = refl

-- `a()`
empty_call_prints : expression_tokens (e (s.call a s.no_expressions)) ≡
    word 0 ∷ Token fixed.LeftParen ∷ Token fixed.RightParen ∷ []
empty_call_prints = refl

-- `a ? b : c`
choice_prints : expression_tokens (e (s.choice a b c)) ≡
    word 0 ∷ Token fixed.Question ∷ word 1 ∷ Token fixed.Colon ∷ word 2 ∷ []
choice_prints = refl

-- `a[b]`
index_prints : expression_tokens (e (s.index a b)) ≡ word 0 ∷ Token fixed.LeftBracket ∷ word 1 ∷ Token fixed.RightBracket ∷ []
index_prints = refl

-- `a.b->c`
member_prints : expression_tokens (e (s.arrow (e (s.dot a (at 1 2))) (at 2 3))) ≡
    word 0 ∷ Token fixed.Dot ∷ word 1 ∷ Token fixed.Arrow ∷ word 2 ∷ []
member_prints = refl

-- `++a--`
step_prints : expression_tokens (e (s.step step.IncBefore (e (s.step step.DecAfter a)))) ≡
    Token fixed.PlusPlus ∷ word 0 ∷ Token fixed.MinusMinus ∷ []
step_prints = refl

-- `a <<= -b`
assign_prints : expression_tokens (e (s.assign assign.Left a (e (s.unary unary.Minus b)))) ≡
    word 0 ∷ Token fixed.LeftShiftAssign ∷ Token fixed.Minus ∷ word 1 ∷ []
assign_prints = refl

-- `(int *) a`
cast_prints : expression_tokens (e (s.cast (s.type_name unlaid (s.base unlaid (s.words (fixed.Int ∷ []))) 1 s.no_dimensions) a)) ≡
    Token fixed.LeftParen ∷ Token fixed.Int ∷ Token fixed.Star ∷ Token fixed.RightParen ∷ word 0 ∷ []
cast_prints = refl

-- `sizeof (int *)`
size_prints : expression_tokens (e (s.size_name (s.type_name unlaid (s.base unlaid (s.words (fixed.Int ∷ []))) 1 s.no_dimensions))) ≡
    Token fixed.Sizeof ∷ Token fixed.LeftParen ∷ Token fixed.Int ∷ Token fixed.Star ∷ Token fixed.RightParen ∷ []
size_prints = refl

-- `struct a { int b, *c; }`
struct_prints : base_tokens (s.base unlaid (s.struct_def (Some (at 0 1)) (s.then_member (s.member (s.base unlaid (s.words (fixed.Int ∷ []))) (s.then_declarator (s.declarator unlaid 0 (Some (at 1 2)) (s.arrays s.no_dimensions) s.no_initialiser) (s.then_declarator (s.declarator unlaid 1 (Some (at 2 3)) (s.arrays s.no_dimensions) s.no_initialiser) s.no_declarators))) s.no_members))) ≡
    Token fixed.Struct ∷ word 0 ∷ Token fixed.LeftBrace ∷ Token fixed.Int ∷ word 1 ∷ Token fixed.Comma ∷ Token fixed.Star ∷ word 2 ∷ Token fixed.Semicolon ∷ Token fixed.RightBrace ∷ []
struct_prints = refl

-- `enum { a = b, c, }`
enum_prints : base_tokens (s.base unlaid (s.enum_def None (s.then_enumerator (s.enumerator (at 0 1) (s.some_expression b)) (s.then_enumerator (s.enumerator (at 2 3) s.no_expression) s.no_enumerators)) true)) ≡
    Token fixed.Enum ∷ Token fixed.LeftBrace ∷ word 0 ∷ Token fixed.Assign ∷ word 1 ∷ Token fixed.Comma ∷ word 2 ∷ Token fixed.Comma ∷ Token fixed.RightBrace ∷ []
enum_prints = refl

-- `{ .a [b] = c, b }`
braces_print : initialiser_tokens (s.braces (s.then_item (s.item (s.then_designator (s.dot_designator (at 0 1)) (s.then_designator (s.at_designator b) s.no_designators)) (s.plain c)) (s.then_item (s.item s.no_designators (s.plain b)) s.no_items)) false) ≡
    Token fixed.LeftBrace ∷ Token fixed.Dot ∷ word 0 ∷ Token fixed.LeftBracket ∷ word 1 ∷ Token fixed.RightBracket ∷ Token fixed.Assign ∷ word 2 ∷ Token fixed.Comma ∷ word 1 ∷ Token fixed.RightBrace ∷ []
braces_print = refl

-- `do break; while (a);`
do_prints : statement_tokens (x (s.do_statement (x s.break_statement) a)) ≡
    Token fixed.Do ∷ Token fixed.Break ∷ Token fixed.Semicolon ∷ Token fixed.While ∷ Token fixed.LeftParen ∷ word 0 ∷ Token fixed.RightParen ∷ Token fixed.Semicolon ∷ []
do_prints = refl

-- `for (a; ; c) break;`
for_prints : statement_tokens (x (s.for_statement (s.start_expression (s.some_expression a)) s.no_expression (s.some_expression c) (x s.break_statement))) ≡
    Token fixed.For ∷ Token fixed.LeftParen ∷ word 0 ∷ Token fixed.Semicolon ∷ Token fixed.Semicolon ∷ word 2 ∷ Token fixed.RightParen ∷ Token fixed.Break ∷ Token fixed.Semicolon ∷ []
for_prints = refl

-- `switch (a) { case b: default: break; }`
switch_prints : statement_tokens (x (s.switch_statement a (s.then_section (s.section unlaid (s.then_label (s.case_label b) (s.then_label s.default_label s.no_labels)) (s.then_statement (x s.break_statement) s.no_statements)) s.no_sections))) ≡
    Token fixed.Switch ∷ Token fixed.LeftParen ∷ word 0 ∷ Token fixed.RightParen ∷ Token fixed.LeftBrace ∷ Token fixed.Case ∷ word 1 ∷ Token fixed.Colon ∷ Token fixed.Default ∷ Token fixed.Colon ∷ Token fixed.Break ∷ Token fixed.Semicolon ∷ Token fixed.RightBrace ∷ []
switch_prints = refl

-- `if (a) break; else break;`
else_prints : statement_tokens (x (s.if_statement a (x s.break_statement) (s.some_statement (x s.break_statement)))) ≡
    Token fixed.If ∷ Token fixed.LeftParen ∷ word 0 ∷ Token fixed.RightParen ∷ Token fixed.Break ∷ Token fixed.Semicolon ∷ Token fixed.Else ∷ Token fixed.Break ∷ Token fixed.Semicolon ∷ []
else_prints = refl

-- `a - b - c` is `(a - b) - c`
left_placed : expression_placed 1 (e (s.binary binary.Sub (e (s.binary binary.Sub a b)) c)) ≡ true
left_placed = refl

-- the right operand of `-` is no `b - c` without parentheses
right_not_placed : expression_placed 1 (e (s.binary binary.Sub a (e (s.binary binary.Sub b c)))) ≡ false
right_not_placed = refl

-- `a - (b - c)`
right_placed : expression_placed 1 (e (s.binary binary.Sub a (e (s.paren (e (s.binary binary.Sub b c)))))) ≡ true
right_placed = refl

-- an argument is no `b, c` without parentheses
comma_not_placed : expression_placed 1 (e (s.call a (s.then_expression (e (s.binary binary.Comma b c)) s.no_expressions))) ≡
    false
comma_not_placed = refl

-- `if (a) if (b) break; else break;`, where the `else` is the outer one's
else_not_placed : statement_placed (x (s.if_statement a (x (s.if_statement b (x s.break_statement) s.no_statement)) (s.some_statement (x s.break_statement)))) ≡
    false
else_not_placed = refl

-- the same, where it is the inner one's
else_placed : statement_placed (x (s.if_statement a (x (s.if_statement b (x s.break_statement) (s.some_statement (x s.break_statement)))) s.no_statement)) ≡
    true
else_placed = refl

-- `(void)` is no list of one parameter
void_not_placed : tail_placed (s.with_parameters (s.then_parameter (s.parameter unlaid (s.base unlaid (s.words (fixed.Void ∷ []))) (s.declarator unlaid 0 None (s.arrays s.no_dimensions) s.no_initialiser)) s.no_parameters) false) ≡
    false
void_not_placed = refl

-- `(void, ...)` is one
void_more_placed : tail_placed (s.with_parameters (s.then_parameter (s.parameter unlaid (s.base unlaid (s.words (fixed.Void ∷ []))) (s.declarator unlaid 0 None (s.arrays s.no_dimensions) s.no_initialiser)) s.no_parameters) true) ≡
    true
void_more_placed = refl

-- the type of a cast has no braces
braces_not_placed : type_name_placed (s.type_name unlaid (s.base unlaid (s.struct_def None (s.then_member (s.member (s.base unlaid (s.words (fixed.Int ∷ []))) (s.then_declarator (s.declarator unlaid 0 (Some (at 1 2)) (s.arrays s.no_dimensions) s.no_initialiser) s.no_declarators)) s.no_members))) 0 s.no_dimensions) ≡
    false
braces_not_placed = refl

-- only the last section may be without statements
section_not_placed : statement_placed (x (s.switch_statement a (s.then_section (s.section unlaid (s.then_label s.default_label s.no_labels) s.no_statements) (s.then_section (s.section unlaid (s.then_label s.default_label s.no_labels) s.no_statements) s.no_sections)))) ≡
    false
section_not_placed = refl

-- the arguments are no level of their own
call_height : expression_height (e (s.call a (s.then_expression b (s.then_expression c s.no_expressions)))) ≡ 2
call_height = refl

-- `**a[1]`: the declarator and the size of its array part; nested are the declarator, two `*`, an array part and its
-- size
stars : DeclrTree
stars = s.declarator unlaid 2 (Some (at 0 1)) (s.arrays (s.then_dimension (s.sized (e (s.number (at 1 2)))) s.no_dimensions)) s.no_initialiser

star_height : declarator_height stars ≡ 2
unfolding stars
star_height = refl

star_nesting : declarator_nesting stars ≡ 5
unfolding stars
star_nesting = refl

-- `{{a}}`: one node, and two braces round it
braces : InitTree
braces = s.braces (s.then_item (s.item s.no_designators (s.braces (s.then_item (s.item s.no_designators (s.plain a)) s.no_items) false)) s.no_items) false

brace_height : initialiser_height braces ≡ 1
unfolding braces
brace_height = refl

brace_nesting : initialiser_nesting braces ≡ 3
unfolding braces
brace_nesting = refl
