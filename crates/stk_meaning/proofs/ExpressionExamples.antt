-- Path runs with each form of expression and each kind of condition.
use Rattle.std.proofs.Common.{◌≡◌, true, false, [], ◌∷◌, Some, None, pos, negsuc, refl}
use Rattle.stk_ctype.specs.declared.kind.IntKind.TheVariants as kind
use Rattle.stk_ctype.specs.Types.{void_type, integer_type, pointer_type, array_type, struct_type, no_types, then_type, signature}
use Rattle.stk_tree.specs.declared.fixed.Fixed.TheVariants as fixed
use Rattle.stk_tree.specs.declared.expression.StepOp.TheVariants as step
use Rattle.stk_tree.specs.declared.expression.UnaryOp.TheVariants as unary
use Rattle.stk_tree.specs.declared.expression.BinaryOp.TheVariants as binary
use Rattle.stk_tree.specs.declared.expression.AssignOp.TheVariants as assign
use Rattle.stk_tree.specs.Syntax.{FunctionTree}
use Rattle.stk_tree.specs.Syntax as s
use Rattle.stk_numbers.specs.declared.conditions.UbKind.TheVariants as ub
use Rattle.stk_meaning.specs.declared.entry.Entry.TheVariants.{Enter, Seen}
use Rattle.stk_meaning.specs.Typings.{Typing}
use Rattle.stk_meaning.specs.Paths.{path}
use Rattle.stk_meaning.proofs.Told.{told, n, at, ub_at, all_kinds}

-- `int f(void) { if (GREEN == 5) { if (total) ; } return 0; }` behind `struct in { unsigned char lo; short hi; };
-- struct node { int n; struct node *next; struct in in; int row[3]; }; enum color { RED, GREEN = 5 }; extern int
-- g(int); extern void h(void); extern void die(int) __attribute__((noreturn)); int total; int open[]; int grid[2][3];
-- struct node head;`
abbrev names_typing : Typing
names_typing = told (102 ∷ 71 ∷ 82 ∷ 69 ∷ 69 ∷ 78 ∷ 53 ∷ 116 ∷ 111 ∷ 116 ∷ 97 ∷ 108 ∷ 48 ∷ []) ((2, (integer_type kind.Int)) ∷ (3, (integer_type kind.Int)) ∷ (4, (integer_type kind.Int)) ∷ (5, (integer_type kind.Int)) ∷ (10, (integer_type kind.Int)) ∷ []) ([]) ((2, (pos 5)) ∷ (3, (pos 5)) ∷ (10, (pos 0)) ∷ []) ([]) ((Some 4) ∷ (Some 32) ∷ []) ([]) ([])

abbrev names_tree : FunctionTree
names_tree = (s.function None (s.base (n 0) (s.words (fixed.Int ∷ []))) (s.declarator (n 1) 0 (Some (at 0 1)) s.void_parameters s.no_initialiser) (s.statement (n 12) (s.block (s.then_part (s.run (s.statement (n 9) (s.if_statement (s.expression (n 4) (s.binary binary.Eq (s.expression (n 2) (s.name (at 1 6))) (s.expression (n 3) (s.number (at 6 7))))) (s.statement (n 8) (s.block (s.then_part (s.run (s.statement (n 7) (s.if_statement (s.expression (n 5) (s.name (at 7 12))) (s.statement (n 6) (s.expression_statement s.no_expression)) s.no_statement))) s.no_parts))) s.no_statement))) (s.then_part (s.run (s.statement (n 11) (s.return_statement (s.some_expression (s.expression (n 10) (s.number (at 12 13))))))) s.no_parts)))))

names_of_file_scope : path names_typing all_kinds names_tree ((pos 64) ∷ (pos 0) ∷ []) ≡ Seen 4 true None ∷ Enter 8 ∷ Seen 5 false None ∷ []
names_of_file_scope = refl

-- `int f(void) { if (0x10 == 020 && 'a' == 97 && '\377' == -1 && sizeof(int) == 4 && 4294967295 > 0) return 1; return
-- 0; }`
abbrev constants_typing : Typing
constants_typing = told (102 ∷ 48 ∷ 120 ∷ 49 ∷ 48 ∷ 48 ∷ 50 ∷ 48 ∷ 39 ∷ 97 ∷ 39 ∷ 57 ∷ 55 ∷ 39 ∷ 92 ∷ 51 ∷ 55 ∷ 55 ∷ 39 ∷ 49 ∷ 52 ∷ 52 ∷ 50 ∷ 57 ∷ 52 ∷ 57 ∷ 54 ∷ 55 ∷ 50 ∷ 57 ∷ 53 ∷ 48 ∷ []) ((2, (integer_type kind.Int)) ∷ (3, (integer_type kind.Int)) ∷ (4, (integer_type kind.Int)) ∷ (5, (integer_type kind.Int)) ∷ (6, (integer_type kind.Int)) ∷ (7, (integer_type kind.Int)) ∷ (8, (integer_type kind.Int)) ∷ (9, (integer_type kind.Int)) ∷ (10, (integer_type kind.Int)) ∷ (11, (integer_type kind.Int)) ∷ (12, (integer_type kind.Int)) ∷ (13, (integer_type kind.Int)) ∷ (16, (integer_type kind.ULong)) ∷ (17, (integer_type kind.Int)) ∷ (18, (integer_type kind.Int)) ∷ (19, (integer_type kind.Int)) ∷ (20, (integer_type kind.Long)) ∷ (21, (integer_type kind.Int)) ∷ (22, (integer_type kind.Int)) ∷ (23, (integer_type kind.Int)) ∷ (24, (integer_type kind.Int)) ∷ (27, (integer_type kind.Int)) ∷ []) ([]) ((2, (pos 16)) ∷ (3, (pos 16)) ∷ (5, (pos 97)) ∷ (6, (pos 97)) ∷ (9, (negsuc 0)) ∷ (10, (pos 1)) ∷ (16, (pos 4)) ∷ (17, (pos 4)) ∷ (20, (pos 4294967295)) ∷ (21, (pos 0)) ∷ (24, (pos 1)) ∷ (27, (pos 0)) ∷ []) ([]) ([]) ([]) ([])

abbrev constants_tree : FunctionTree
constants_tree = (s.function None (s.base (n 0) (s.words (fixed.Int ∷ []))) (s.declarator (n 1) 0 (Some (at 0 1)) s.void_parameters s.no_initialiser) (s.statement (n 29) (s.block (s.then_part (s.run (s.statement (n 26) (s.if_statement (s.expression (n 23) (s.binary binary.AndAlso (s.expression (n 19) (s.binary binary.AndAlso (s.expression (n 13) (s.binary binary.AndAlso (s.expression (n 8) (s.binary binary.AndAlso (s.expression (n 4) (s.binary binary.Eq (s.expression (n 2) (s.number (at 1 5))) (s.expression (n 3) (s.number (at 5 8))))) (s.expression (n 7) (s.binary binary.Eq (s.expression (n 5) (s.character (at 8 11))) (s.expression (n 6) (s.number (at 11 13))))))) (s.expression (n 12) (s.binary binary.Eq (s.expression (n 9) (s.character (at 13 19))) (s.expression (n 11) (s.unary unary.Minus (s.expression (n 10) (s.number (at 19 20))))))))) (s.expression (n 18) (s.binary binary.Eq (s.expression (n 16) (s.size_name (s.type_name (n 15) (s.base (n 14) (s.words (fixed.Int ∷ []))) 0 s.no_dimensions))) (s.expression (n 17) (s.number (at 20 21))))))) (s.expression (n 22) (s.binary binary.Gt (s.expression (n 20) (s.number (at 21 31))) (s.expression (n 21) (s.number (at 31 32))))))) (s.statement (n 25) (s.return_statement (s.some_expression (s.expression (n 24) (s.number (at 19 20)))))) s.no_statement))) (s.then_part (s.run (s.statement (n 28) (s.return_statement (s.some_expression (s.expression (n 27) (s.number (at 31 32))))))) s.no_parts)))))

constants_all : path constants_typing all_kinds constants_tree ([]) ≡ Seen 4 true None ∷ Enter 7 ∷ Seen 7 true None ∷ Seen 8 true None ∷ Enter 12 ∷ Seen 12 true None ∷ Seen 13 true None ∷ Enter 18 ∷ Seen 18 true None ∷ Seen 19 true None ∷ Enter 22 ∷ Seen 22 true None ∷ Seen 23 true None ∷ Enter 25 ∷ []
constants_all = refl

-- `int f(void) { char *p = "ab"; if (p[1] == "ab"[1]) return 1; return 0; }`
abbrev string_typing : Typing
string_typing = told (102 ∷ 34 ∷ 97 ∷ 98 ∷ 34 ∷ 112 ∷ 49 ∷ 48 ∷ []) ((3, (array_type (integer_type kind.Char) (Some 3))) ∷ (4, (pointer_type (integer_type kind.Char))) ∷ (5, (pointer_type (integer_type kind.Char))) ∷ (6, (integer_type kind.Int)) ∷ (7, (integer_type kind.Char)) ∷ (8, (array_type (integer_type kind.Char) (Some 3))) ∷ (9, (integer_type kind.Int)) ∷ (10, (integer_type kind.Char)) ∷ (11, (integer_type kind.Int)) ∷ (12, (integer_type kind.Int)) ∷ (15, (integer_type kind.Int)) ∷ []) ((5, 4) ∷ []) ((6, (pos 1)) ∷ (9, (pos 1)) ∷ (12, (pos 1)) ∷ (15, (pos 0)) ∷ []) ([]) ([]) ([]) ([])

abbrev string_tree : FunctionTree
string_tree = (s.function None (s.base (n 0) (s.words (fixed.Int ∷ []))) (s.declarator (n 1) 0 (Some (at 0 1)) s.void_parameters s.no_initialiser) (s.statement (n 17) (s.block (s.then_part (s.local (s.declaration None (s.base (n 2) (s.words (fixed.Char ∷ []))) (s.then_declarator (s.declarator (n 4) 1 (Some (at 5 6)) (s.arrays s.no_dimensions) (s.some_initialiser (s.plain (s.expression (n 3) (s.text ((at 1 5) ∷ [])))))) s.no_declarators))) (s.then_part (s.run (s.statement (n 14) (s.if_statement (s.expression (n 11) (s.binary binary.Eq (s.expression (n 7) (s.index (s.expression (n 5) (s.name (at 5 6))) (s.expression (n 6) (s.number (at 6 7))))) (s.expression (n 10) (s.index (s.expression (n 8) (s.text ((at 1 5) ∷ []))) (s.expression (n 9) (s.number (at 6 7))))))) (s.statement (n 13) (s.return_statement (s.some_expression (s.expression (n 12) (s.number (at 6 7)))))) s.no_statement))) (s.then_part (s.run (s.statement (n 16) (s.return_statement (s.some_expression (s.expression (n 15) (s.number (at 7 8))))))) s.no_parts))))))

string_read : path string_typing all_kinds string_tree ((pos 4096) ∷ (pos 98) ∷ (pos 4200) ∷ (pos 98) ∷ []) ≡ Seen 11 true None ∷ Enter 13 ∷ []
string_read = refl

-- `int f(struct node *p) { if (p->in.hi == (*p).n) return 1; return &p->row[1] == 0; }` behind `struct in { unsigned
-- char lo; short hi; }; struct node { int n; struct node *next; struct in in; int row[3]; }; enum color { RED, GREEN =
-- 5 }; extern int g(int); extern void h(void); extern void die(int) __attribute__((noreturn)); int total; int open[];
-- int grid[2][3]; struct node head;`
abbrev members_typing : Typing
members_typing = told (110 ∷ 111 ∷ 100 ∷ 101 ∷ 112 ∷ 102 ∷ 105 ∷ 110 ∷ 104 ∷ 105 ∷ 110 ∷ 49 ∷ 114 ∷ 111 ∷ 119 ∷ 48 ∷ []) ((2, (pointer_type (struct_type 1))) ∷ (5, (pointer_type (struct_type 1))) ∷ (6, (struct_type 0)) ∷ (7, (integer_type kind.Short)) ∷ (8, (pointer_type (struct_type 1))) ∷ (9, (struct_type 1)) ∷ (10, (struct_type 1)) ∷ (11, (integer_type kind.Int)) ∷ (12, (integer_type kind.Int)) ∷ (13, (integer_type kind.Int)) ∷ (16, (pointer_type (struct_type 1))) ∷ (17, (array_type (integer_type kind.Int) (Some 3))) ∷ (18, (integer_type kind.Int)) ∷ (19, (integer_type kind.Int)) ∷ (20, (pointer_type (integer_type kind.Int))) ∷ (21, (integer_type kind.Int)) ∷ (22, (integer_type kind.Int)) ∷ []) ((5, 2) ∷ (8, 2) ∷ (16, 2) ∷ []) ((13, (pos 1)) ∷ (18, (pos 1)) ∷ (21, (pos 0)) ∷ []) ([]) ((Some 4) ∷ (Some 32) ∷ []) ((1, 6, 16) ∷ (0, 8, 2) ∷ (1, 10, 0) ∷ (1, 12, 20) ∷ []) ([])

abbrev members_tree : FunctionTree
members_tree = (s.function None (s.base (n 0) (s.words (fixed.Int ∷ []))) (s.declarator (n 4) 0 (Some (at 5 6)) (s.with_parameters (s.then_parameter (s.parameter (n 3) (s.base (n 1) (s.struct_ref (at 0 4))) (s.declarator (n 2) 1 (Some (at 4 5)) (s.arrays s.no_dimensions) s.no_initialiser)) s.no_parameters) false) s.no_initialiser) (s.statement (n 24) (s.block (s.then_part (s.run (s.statement (n 15) (s.if_statement (s.expression (n 12) (s.binary binary.Eq (s.expression (n 7) (s.dot (s.expression (n 6) (s.arrow (s.expression (n 5) (s.name (at 4 5))) (at 6 8))) (at 8 10))) (s.expression (n 11) (s.dot (s.expression (n 10) (s.paren (s.expression (n 9) (s.unary unary.Deref (s.expression (n 8) (s.name (at 4 5))))))) (at 10 11))))) (s.statement (n 14) (s.return_statement (s.some_expression (s.expression (n 13) (s.number (at 11 12)))))) s.no_statement))) (s.then_part (s.run (s.statement (n 23) (s.return_statement (s.some_expression (s.expression (n 22) (s.binary binary.Eq (s.expression (n 20) (s.unary unary.Address (s.expression (n 19) (s.index (s.expression (n 17) (s.arrow (s.expression (n 16) (s.name (at 4 5))) (at 12 15))) (s.expression (n 18) (s.number (at 11 12))))))) (s.expression (n 21) (s.number (at 15 16))))))))) s.no_parts)))))

members_read : path members_typing all_kinds members_tree ((pos 8) ∷ (pos 3) ∷ (pos 3) ∷ []) ≡ Seen 12 true None ∷ Enter 14 ∷ []
members_read = refl

members_null : path members_typing all_kinds members_tree ((pos 0) ∷ (pos 3) ∷ (pos 4) ∷ []) ≡ ub_at 6 ub.Null ∷ ub_at 9 ub.Null ∷ Seen 12 false None ∷ Seen 22 false None ∷ []
members_null = refl

-- `int f(int i, int *p) { if (grid[1][i]) return p[i]; return open[i] + *&open[i]; }` behind `struct in { unsigned char
-- lo; short hi; }; struct node { int n; struct node *next; struct in in; int row[3]; }; enum color { RED, GREEN = 5 };
-- extern int g(int); extern void h(void); extern void die(int) __attribute__((noreturn)); int total; int open[]; int
-- grid[2][3]; struct node head;`
abbrev rows_typing : Typing
rows_typing = told (105 ∷ 112 ∷ 102 ∷ 103 ∷ 114 ∷ 105 ∷ 100 ∷ 49 ∷ 111 ∷ 112 ∷ 101 ∷ 110 ∷ []) ((2, (integer_type kind.Int)) ∷ (5, (pointer_type (integer_type kind.Int))) ∷ (8, (array_type (array_type (integer_type kind.Int) (Some 3)) (Some 2))) ∷ (9, (integer_type kind.Int)) ∷ (10, (array_type (integer_type kind.Int) (Some 3))) ∷ (11, (integer_type kind.Int)) ∷ (12, (integer_type kind.Int)) ∷ (13, (pointer_type (integer_type kind.Int))) ∷ (14, (integer_type kind.Int)) ∷ (15, (integer_type kind.Int)) ∷ (18, (array_type (integer_type kind.Int) None)) ∷ (19, (integer_type kind.Int)) ∷ (20, (integer_type kind.Int)) ∷ (21, (array_type (integer_type kind.Int) None)) ∷ (22, (integer_type kind.Int)) ∷ (23, (integer_type kind.Int)) ∷ (24, (pointer_type (integer_type kind.Int))) ∷ (25, (integer_type kind.Int)) ∷ (26, (integer_type kind.Int)) ∷ []) ((11, 2) ∷ (13, 5) ∷ (14, 2) ∷ (19, 2) ∷ (22, 2) ∷ []) ((9, (pos 1)) ∷ []) ([]) ((Some 4) ∷ (Some 32) ∷ []) ([]) ([])

abbrev rows_tree : FunctionTree
rows_tree = (s.function None (s.base (n 0) (s.words (fixed.Int ∷ []))) (s.declarator (n 7) 0 (Some (at 2 3)) (s.with_parameters (s.then_parameter (s.parameter (n 3) (s.base (n 1) (s.words (fixed.Int ∷ []))) (s.declarator (n 2) 0 (Some (at 0 1)) (s.arrays s.no_dimensions) s.no_initialiser)) (s.then_parameter (s.parameter (n 6) (s.base (n 4) (s.words (fixed.Int ∷ []))) (s.declarator (n 5) 1 (Some (at 1 2)) (s.arrays s.no_dimensions) s.no_initialiser)) s.no_parameters)) false) s.no_initialiser) (s.statement (n 28) (s.block (s.then_part (s.run (s.statement (n 17) (s.if_statement (s.expression (n 12) (s.index (s.expression (n 10) (s.index (s.expression (n 8) (s.name (at 3 7))) (s.expression (n 9) (s.number (at 7 8))))) (s.expression (n 11) (s.name (at 0 1))))) (s.statement (n 16) (s.return_statement (s.some_expression (s.expression (n 15) (s.index (s.expression (n 13) (s.name (at 1 2))) (s.expression (n 14) (s.name (at 0 1)))))))) s.no_statement))) (s.then_part (s.run (s.statement (n 27) (s.return_statement (s.some_expression (s.expression (n 26) (s.binary binary.Add (s.expression (n 20) (s.index (s.expression (n 18) (s.name (at 8 12))) (s.expression (n 19) (s.name (at 0 1))))) (s.expression (n 25) (s.unary unary.Deref (s.expression (n 24) (s.unary unary.Address (s.expression (n 23) (s.index (s.expression (n 21) (s.name (at 8 12))) (s.expression (n 22) (s.name (at 0 1))))))))))))))) s.no_parts)))))

rows_outside : path rows_typing all_kinds rows_tree ((pos 3) ∷ (pos 0) ∷ (pos 64) ∷ (pos 1) ∷ (pos 9) ∷ []) ≡ ub_at 12 ub.Bounds ∷ Seen 12 true None ∷ Enter 16 ∷ ub_at 15 ub.Null ∷ []
rows_outside = refl

rows_unknown : path rows_typing all_kinds rows_tree ((negsuc 0) ∷ (pos 0) ∷ (pos 64) ∷ (pos 0) ∷ (pos 9) ∷ (pos 0) ∷ (pos 1) ∷ (pos 1) ∷ []) ≡ ub_at 12 ub.Bounds ∷ Seen 12 false None ∷ ub_at 20 ub.Pointer ∷ ub_at 23 ub.Pointer ∷ []
rows_unknown = refl

-- `int f(int i) { int j = i++ + i++; if (j == 3 && i == 3) return 1; return --j; }`
abbrev steps_typing : Typing
steps_typing = told (105 ∷ 102 ∷ 106 ∷ 51 ∷ 49 ∷ []) ((2, (integer_type kind.Int)) ∷ (6, (integer_type kind.Int)) ∷ (7, (integer_type kind.Int)) ∷ (8, (integer_type kind.Int)) ∷ (9, (integer_type kind.Int)) ∷ (10, (integer_type kind.Int)) ∷ (11, (integer_type kind.Int)) ∷ (12, (integer_type kind.Int)) ∷ (13, (integer_type kind.Int)) ∷ (14, (integer_type kind.Int)) ∷ (15, (integer_type kind.Int)) ∷ (16, (integer_type kind.Int)) ∷ (17, (integer_type kind.Int)) ∷ (18, (integer_type kind.Int)) ∷ (19, (integer_type kind.Int)) ∷ (22, (integer_type kind.Int)) ∷ (23, (integer_type kind.Int)) ∷ []) ((6, 2) ∷ (8, 2) ∷ (12, 11) ∷ (15, 2) ∷ (22, 11) ∷ []) ((13, (pos 3)) ∷ (16, (pos 3)) ∷ (19, (pos 1)) ∷ []) ([]) ([]) ([]) ([])

abbrev steps_tree : FunctionTree
steps_tree = (s.function None (s.base (n 0) (s.words (fixed.Int ∷ []))) (s.declarator (n 4) 0 (Some (at 1 2)) (s.with_parameters (s.then_parameter (s.parameter (n 3) (s.base (n 1) (s.words (fixed.Int ∷ []))) (s.declarator (n 2) 0 (Some (at 0 1)) (s.arrays s.no_dimensions) s.no_initialiser)) s.no_parameters) false) s.no_initialiser) (s.statement (n 25) (s.block (s.then_part (s.local (s.declaration None (s.base (n 5) (s.words (fixed.Int ∷ []))) (s.then_declarator (s.declarator (n 11) 0 (Some (at 2 3)) (s.arrays s.no_dimensions) (s.some_initialiser (s.plain (s.expression (n 10) (s.binary binary.Add (s.expression (n 7) (s.step step.IncAfter (s.expression (n 6) (s.name (at 0 1))))) (s.expression (n 9) (s.step step.IncAfter (s.expression (n 8) (s.name (at 0 1)))))))))) s.no_declarators))) (s.then_part (s.run (s.statement (n 21) (s.if_statement (s.expression (n 18) (s.binary binary.AndAlso (s.expression (n 14) (s.binary binary.Eq (s.expression (n 12) (s.name (at 2 3))) (s.expression (n 13) (s.number (at 3 4))))) (s.expression (n 17) (s.binary binary.Eq (s.expression (n 15) (s.name (at 0 1))) (s.expression (n 16) (s.number (at 3 4))))))) (s.statement (n 20) (s.return_statement (s.some_expression (s.expression (n 19) (s.number (at 4 5)))))) s.no_statement))) (s.then_part (s.run (s.statement (n 24) (s.return_statement (s.some_expression (s.expression (n 23) (s.step step.DecBefore (s.expression (n 22) (s.name (at 2 3))))))))) s.no_parts))))))

steps_once_each : path steps_typing all_kinds steps_tree ((pos 1) ∷ []) ≡ Seen 14 true None ∷ Enter 17 ∷ Seen 17 true None ∷ Seen 18 true None ∷ Enter 20 ∷ []
steps_once_each = refl

steps_overflow : path steps_typing all_kinds steps_tree ((pos 2147483647) ∷ []) ≡ ub_at 7 ub.Overflow ∷ Seen 14 false None ∷ Seen 18 false None ∷ []
steps_overflow = refl

-- `int f(long *p) { if (p++ == 0) return 1; return p-- - (long *)0 == 9; }`
abbrev pointer_steps_typing : Typing
pointer_steps_typing = told (112 ∷ 102 ∷ 48 ∷ 49 ∷ 57 ∷ []) ((2, (pointer_type (integer_type kind.Long))) ∷ (5, (pointer_type (integer_type kind.Long))) ∷ (6, (pointer_type (integer_type kind.Long))) ∷ (7, (integer_type kind.Int)) ∷ (8, (integer_type kind.Int)) ∷ (9, (integer_type kind.Int)) ∷ (12, (pointer_type (integer_type kind.Long))) ∷ (13, (pointer_type (integer_type kind.Long))) ∷ (16, (integer_type kind.Int)) ∷ (17, (pointer_type (integer_type kind.Long))) ∷ (18, (integer_type kind.Long)) ∷ (19, (integer_type kind.Int)) ∷ (20, (integer_type kind.Int)) ∷ []) ((5, 2) ∷ (12, 2) ∷ []) ((7, (pos 0)) ∷ (9, (pos 1)) ∷ (16, (pos 0)) ∷ (19, (pos 9)) ∷ []) ([]) ([]) ([]) ([])

abbrev pointer_steps_tree : FunctionTree
pointer_steps_tree = (s.function None (s.base (n 0) (s.words (fixed.Int ∷ []))) (s.declarator (n 4) 0 (Some (at 1 2)) (s.with_parameters (s.then_parameter (s.parameter (n 3) (s.base (n 1) (s.words (fixed.Long ∷ []))) (s.declarator (n 2) 1 (Some (at 0 1)) (s.arrays s.no_dimensions) s.no_initialiser)) s.no_parameters) false) s.no_initialiser) (s.statement (n 22) (s.block (s.then_part (s.run (s.statement (n 11) (s.if_statement (s.expression (n 8) (s.binary binary.Eq (s.expression (n 6) (s.step step.IncAfter (s.expression (n 5) (s.name (at 0 1))))) (s.expression (n 7) (s.number (at 2 3))))) (s.statement (n 10) (s.return_statement (s.some_expression (s.expression (n 9) (s.number (at 3 4)))))) s.no_statement))) (s.then_part (s.run (s.statement (n 21) (s.return_statement (s.some_expression (s.expression (n 20) (s.binary binary.Eq (s.expression (n 18) (s.binary binary.Sub (s.expression (n 13) (s.step step.DecAfter (s.expression (n 12) (s.name (at 0 1))))) (s.expression (n 17) (s.cast (s.type_name (n 15) (s.base (n 14) (s.words (fixed.Long ∷ []))) 1 s.no_dimensions) (s.expression (n 16) (s.number (at 2 3))))))) (s.expression (n 19) (s.number (at 4 5))))))))) s.no_parts)))))

pointer_steps_from_0 : path pointer_steps_typing all_kinds pointer_steps_tree ((pos 0) ∷ []) ≡ Seen 8 true None ∷ Enter 10 ∷ []
pointer_steps_from_0 = refl

pointer_steps_from_64 : path pointer_steps_typing all_kinds pointer_steps_tree ((pos 64) ∷ []) ≡ Seen 8 false None ∷ Seen 20 true None ∷ []
pointer_steps_from_64 = refl

pointer_steps_wraps : path pointer_steps_typing all_kinds pointer_steps_tree ((pos 18446744073709551608) ∷ []) ≡ ub_at 6 ub.Pointer ∷ Seen 8 false None ∷ ub_at 13 ub.Pointer ∷ Seen 20 false None ∷ []
pointer_steps_wraps = refl

-- `int f(int x, unsigned u, signed char c) { if (-x == x) return 1; if (~u == 0 || +c < 0) return -u == 1; return !c;
-- }`
abbrev negated_typing : Typing
negated_typing = told (120 ∷ 117 ∷ 99 ∷ 102 ∷ 49 ∷ 48 ∷ []) ((2, (integer_type kind.Int)) ∷ (5, (integer_type kind.UInt)) ∷ (8, (integer_type kind.SChar)) ∷ (11, (integer_type kind.Int)) ∷ (12, (integer_type kind.Int)) ∷ (13, (integer_type kind.Int)) ∷ (14, (integer_type kind.Int)) ∷ (15, (integer_type kind.Int)) ∷ (18, (integer_type kind.UInt)) ∷ (19, (integer_type kind.UInt)) ∷ (20, (integer_type kind.Int)) ∷ (21, (integer_type kind.Int)) ∷ (22, (integer_type kind.SChar)) ∷ (23, (integer_type kind.Int)) ∷ (24, (integer_type kind.Int)) ∷ (25, (integer_type kind.Int)) ∷ (26, (integer_type kind.Int)) ∷ (27, (integer_type kind.UInt)) ∷ (28, (integer_type kind.UInt)) ∷ (29, (integer_type kind.Int)) ∷ (30, (integer_type kind.Int)) ∷ (33, (integer_type kind.SChar)) ∷ (34, (integer_type kind.Int)) ∷ []) ((11, 2) ∷ (13, 2) ∷ (18, 5) ∷ (22, 8) ∷ (27, 5) ∷ (33, 8) ∷ []) ((15, (pos 1)) ∷ (20, (pos 0)) ∷ (24, (pos 0)) ∷ (29, (pos 1)) ∷ []) ([]) ([]) ([]) ([])

abbrev negated_tree : FunctionTree
negated_tree = (s.function None (s.base (n 0) (s.words (fixed.Int ∷ []))) (s.declarator (n 10) 0 (Some (at 3 4)) (s.with_parameters (s.then_parameter (s.parameter (n 3) (s.base (n 1) (s.words (fixed.Int ∷ []))) (s.declarator (n 2) 0 (Some (at 0 1)) (s.arrays s.no_dimensions) s.no_initialiser)) (s.then_parameter (s.parameter (n 6) (s.base (n 4) (s.words (fixed.Unsigned ∷ []))) (s.declarator (n 5) 0 (Some (at 1 2)) (s.arrays s.no_dimensions) s.no_initialiser)) (s.then_parameter (s.parameter (n 9) (s.base (n 7) (s.words (fixed.Signed ∷ fixed.Char ∷ []))) (s.declarator (n 8) 0 (Some (at 2 3)) (s.arrays s.no_dimensions) s.no_initialiser)) s.no_parameters))) false) s.no_initialiser) (s.statement (n 36) (s.block (s.then_part (s.run (s.statement (n 17) (s.if_statement (s.expression (n 14) (s.binary binary.Eq (s.expression (n 12) (s.unary unary.Minus (s.expression (n 11) (s.name (at 0 1))))) (s.expression (n 13) (s.name (at 0 1))))) (s.statement (n 16) (s.return_statement (s.some_expression (s.expression (n 15) (s.number (at 4 5)))))) s.no_statement))) (s.then_part (s.run (s.statement (n 32) (s.if_statement (s.expression (n 26) (s.binary binary.OrElse (s.expression (n 21) (s.binary binary.Eq (s.expression (n 19) (s.unary unary.Flip (s.expression (n 18) (s.name (at 1 2))))) (s.expression (n 20) (s.number (at 5 6))))) (s.expression (n 25) (s.binary binary.Lt (s.expression (n 23) (s.unary unary.Plus (s.expression (n 22) (s.name (at 2 3))))) (s.expression (n 24) (s.number (at 5 6))))))) (s.statement (n 31) (s.return_statement (s.some_expression (s.expression (n 30) (s.binary binary.Eq (s.expression (n 28) (s.unary unary.Minus (s.expression (n 27) (s.name (at 1 2))))) (s.expression (n 29) (s.number (at 4 5)))))))) s.no_statement))) (s.then_part (s.run (s.statement (n 35) (s.return_statement (s.some_expression (s.expression (n 34) (s.unary unary.Not (s.expression (n 33) (s.name (at 2 3))))))))) s.no_parts))))))

negated_least : path negated_typing all_kinds negated_tree ((negsuc 2147483647) ∷ (pos 0) ∷ (pos 0) ∷ []) ≡ ub_at 12 ub.Overflow ∷ Seen 14 true None ∷ Enter 16 ∷ []
negated_least = refl

negated_greatest : path negated_typing all_kinds negated_tree ((pos 1) ∷ (pos 4294967295) ∷ (pos 0) ∷ []) ≡ Seen 14 false None ∷ Seen 21 true None ∷ Seen 26 true None ∷ Enter 31 ∷ Seen 30 true None ∷ []
negated_greatest = refl

negated_negative : path negated_typing all_kinds negated_tree ((pos 1) ∷ (pos 0) ∷ (negsuc 127) ∷ []) ≡ Seen 14 false None ∷ Seen 21 false None ∷ Enter 25 ∷ Seen 25 true None ∷ Seen 26 true None ∷ Enter 31 ∷ Seen 30 false None ∷ []
negated_negative = refl

-- `int f(int x) { if ((unsigned char)x == 0 && (_Bool)x == 1 && (char)x >= 0) return (long)(int *)x < 0; return 0; }`
abbrev casts_typing : Typing
casts_typing = told (120 ∷ 102 ∷ 48 ∷ 49 ∷ []) ((2, (integer_type kind.Int)) ∷ (7, (integer_type kind.Int)) ∷ (8, (integer_type kind.UChar)) ∷ (9, (integer_type kind.Int)) ∷ (10, (integer_type kind.Int)) ∷ (13, (integer_type kind.Int)) ∷ (14, (integer_type kind.Bool)) ∷ (15, (integer_type kind.Int)) ∷ (16, (integer_type kind.Int)) ∷ (17, (integer_type kind.Int)) ∷ (20, (integer_type kind.Int)) ∷ (21, (integer_type kind.Char)) ∷ (22, (integer_type kind.Int)) ∷ (23, (integer_type kind.Int)) ∷ (24, (integer_type kind.Int)) ∷ (29, (integer_type kind.Int)) ∷ (30, (pointer_type (integer_type kind.Int))) ∷ (31, (integer_type kind.Long)) ∷ (32, (integer_type kind.Int)) ∷ (33, (integer_type kind.Int)) ∷ (36, (integer_type kind.Int)) ∷ []) ((7, 2) ∷ (13, 2) ∷ (20, 2) ∷ (29, 2) ∷ []) ((9, (pos 0)) ∷ (15, (pos 1)) ∷ (22, (pos 0)) ∷ (32, (pos 0)) ∷ (36, (pos 0)) ∷ []) ([]) ([]) ([]) ([])

abbrev casts_tree : FunctionTree
casts_tree = (s.function None (s.base (n 0) (s.words (fixed.Int ∷ []))) (s.declarator (n 4) 0 (Some (at 1 2)) (s.with_parameters (s.then_parameter (s.parameter (n 3) (s.base (n 1) (s.words (fixed.Int ∷ []))) (s.declarator (n 2) 0 (Some (at 0 1)) (s.arrays s.no_dimensions) s.no_initialiser)) s.no_parameters) false) s.no_initialiser) (s.statement (n 38) (s.block (s.then_part (s.run (s.statement (n 35) (s.if_statement (s.expression (n 24) (s.binary binary.AndAlso (s.expression (n 17) (s.binary binary.AndAlso (s.expression (n 10) (s.binary binary.Eq (s.expression (n 8) (s.cast (s.type_name (n 6) (s.base (n 5) (s.words (fixed.Unsigned ∷ fixed.Char ∷ []))) 0 s.no_dimensions) (s.expression (n 7) (s.name (at 0 1))))) (s.expression (n 9) (s.number (at 2 3))))) (s.expression (n 16) (s.binary binary.Eq (s.expression (n 14) (s.cast (s.type_name (n 12) (s.base (n 11) (s.words (fixed.Bool ∷ []))) 0 s.no_dimensions) (s.expression (n 13) (s.name (at 0 1))))) (s.expression (n 15) (s.number (at 3 4))))))) (s.expression (n 23) (s.binary binary.Ge (s.expression (n 21) (s.cast (s.type_name (n 19) (s.base (n 18) (s.words (fixed.Char ∷ []))) 0 s.no_dimensions) (s.expression (n 20) (s.name (at 0 1))))) (s.expression (n 22) (s.number (at 2 3))))))) (s.statement (n 34) (s.return_statement (s.some_expression (s.expression (n 33) (s.binary binary.Lt (s.expression (n 31) (s.cast (s.type_name (n 26) (s.base (n 25) (s.words (fixed.Long ∷ []))) 0 s.no_dimensions) (s.expression (n 30) (s.cast (s.type_name (n 28) (s.base (n 27) (s.words (fixed.Int ∷ []))) 1 s.no_dimensions) (s.expression (n 29) (s.name (at 0 1))))))) (s.expression (n 32) (s.number (at 2 3)))))))) s.no_statement))) (s.then_part (s.run (s.statement (n 37) (s.return_statement (s.some_expression (s.expression (n 36) (s.number (at 2 3))))))) s.no_parts)))))

casts_of_256 : path casts_typing all_kinds casts_tree ((negsuc 255) ∷ []) ≡ Seen 10 true None ∷ Enter 16 ∷ Seen 16 true None ∷ Seen 17 true None ∷ Enter 23 ∷ Seen 23 true None ∷ Seen 24 true None ∷ Enter 34 ∷ Seen 33 true None ∷ []
casts_of_256 = refl

-- `int f(int x, int y) { return (x * y == 6) + (x / y == -1) + (x - y == -5) + ((x & y) == 2) + ((x | y) == -1) + ((x ^
-- y) == -3) + (y >> 1 == 1) + (x >> 1 == -1) + (y << 2 == 12); }`
abbrev operators_typing : Typing
operators_typing = told (120 ∷ 121 ∷ 102 ∷ 54 ∷ 49 ∷ 53 ∷ 50 ∷ 51 ∷ 49 ∷ 50 ∷ []) ((2, (integer_type kind.Int)) ∷ (5, (integer_type kind.Int)) ∷ (8, (integer_type kind.Int)) ∷ (9, (integer_type kind.Int)) ∷ (10, (integer_type kind.Int)) ∷ (11, (integer_type kind.Int)) ∷ (12, (integer_type kind.Int)) ∷ (13, (integer_type kind.Int)) ∷ (14, (integer_type kind.Int)) ∷ (15, (integer_type kind.Int)) ∷ (16, (integer_type kind.Int)) ∷ (17, (integer_type kind.Int)) ∷ (18, (integer_type kind.Int)) ∷ (19, (integer_type kind.Int)) ∷ (20, (integer_type kind.Int)) ∷ (21, (integer_type kind.Int)) ∷ (22, (integer_type kind.Int)) ∷ (23, (integer_type kind.Int)) ∷ (24, (integer_type kind.Int)) ∷ (25, (integer_type kind.Int)) ∷ (26, (integer_type kind.Int)) ∷ (27, (integer_type kind.Int)) ∷ (28, (integer_type kind.Int)) ∷ (29, (integer_type kind.Int)) ∷ (30, (integer_type kind.Int)) ∷ (31, (integer_type kind.Int)) ∷ (32, (integer_type kind.Int)) ∷ (33, (integer_type kind.Int)) ∷ (34, (integer_type kind.Int)) ∷ (35, (integer_type kind.Int)) ∷ (36, (integer_type kind.Int)) ∷ (37, (integer_type kind.Int)) ∷ (38, (integer_type kind.Int)) ∷ (39, (integer_type kind.Int)) ∷ (40, (integer_type kind.Int)) ∷ (41, (integer_type kind.Int)) ∷ (42, (integer_type kind.Int)) ∷ (43, (integer_type kind.Int)) ∷ (44, (integer_type kind.Int)) ∷ (45, (integer_type kind.Int)) ∷ (46, (integer_type kind.Int)) ∷ (47, (integer_type kind.Int)) ∷ (48, (integer_type kind.Int)) ∷ (49, (integer_type kind.Int)) ∷ (50, (integer_type kind.Int)) ∷ (51, (integer_type kind.Int)) ∷ (52, (integer_type kind.Int)) ∷ (53, (integer_type kind.Int)) ∷ (54, (integer_type kind.Int)) ∷ (55, (integer_type kind.Int)) ∷ (56, (integer_type kind.Int)) ∷ (57, (integer_type kind.Int)) ∷ (58, (integer_type kind.Int)) ∷ (59, (integer_type kind.Int)) ∷ (60, (integer_type kind.Int)) ∷ (61, (integer_type kind.Int)) ∷ (62, (integer_type kind.Int)) ∷ (63, (integer_type kind.Int)) ∷ (64, (integer_type kind.Int)) ∷ (65, (integer_type kind.Int)) ∷ (66, (integer_type kind.Int)) ∷ (67, (integer_type kind.Int)) ∷ (68, (integer_type kind.Int)) ∷ (69, (integer_type kind.Int)) ∷ (70, (integer_type kind.Int)) ∷ (71, (integer_type kind.Int)) ∷ (72, (integer_type kind.Int)) ∷ (73, (integer_type kind.Int)) ∷ (74, (integer_type kind.Int)) ∷ (75, (integer_type kind.Int)) ∷ (76, (integer_type kind.Int)) ∷ (77, (integer_type kind.Int)) ∷ []) ((8, 2) ∷ (9, 5) ∷ (14, 2) ∷ (15, 5) ∷ (22, 2) ∷ (23, 5) ∷ (30, 2) ∷ (31, 5) ∷ (38, 2) ∷ (39, 5) ∷ (47, 2) ∷ (48, 5) ∷ (56, 5) ∷ (63, 2) ∷ (71, 5) ∷ []) ((11, (pos 6)) ∷ (17, (pos 1)) ∷ (25, (pos 5)) ∷ (34, (pos 2)) ∷ (42, (pos 1)) ∷ (51, (pos 3)) ∷ (57, (pos 1)) ∷ (59, (pos 1)) ∷ (64, (pos 1)) ∷ (66, (pos 1)) ∷ (72, (pos 2)) ∷ (74, (pos 12)) ∷ []) ([]) ([]) ([]) ([])

abbrev operators_tree : FunctionTree
operators_tree = (s.function None (s.base (n 0) (s.words (fixed.Int ∷ []))) (s.declarator (n 7) 0 (Some (at 2 3)) (s.with_parameters (s.then_parameter (s.parameter (n 3) (s.base (n 1) (s.words (fixed.Int ∷ []))) (s.declarator (n 2) 0 (Some (at 0 1)) (s.arrays s.no_dimensions) s.no_initialiser)) (s.then_parameter (s.parameter (n 6) (s.base (n 4) (s.words (fixed.Int ∷ []))) (s.declarator (n 5) 0 (Some (at 1 2)) (s.arrays s.no_dimensions) s.no_initialiser)) s.no_parameters)) false) s.no_initialiser) (s.statement (n 79) (s.block (s.then_part (s.run (s.statement (n 78) (s.return_statement (s.some_expression (s.expression (n 77) (s.binary binary.Add (s.expression (n 70) (s.binary binary.Add (s.expression (n 62) (s.binary binary.Add (s.expression (n 55) (s.binary binary.Add (s.expression (n 46) (s.binary binary.Add (s.expression (n 37) (s.binary binary.Add (s.expression (n 29) (s.binary binary.Add (s.expression (n 21) (s.binary binary.Add (s.expression (n 13) (s.paren (s.expression (n 12) (s.binary binary.Eq (s.expression (n 10) (s.binary binary.Mul (s.expression (n 8) (s.name (at 0 1))) (s.expression (n 9) (s.name (at 1 2))))) (s.expression (n 11) (s.number (at 3 4))))))) (s.expression (n 20) (s.paren (s.expression (n 19) (s.binary binary.Eq (s.expression (n 16) (s.binary binary.Div (s.expression (n 14) (s.name (at 0 1))) (s.expression (n 15) (s.name (at 1 2))))) (s.expression (n 18) (s.unary unary.Minus (s.expression (n 17) (s.number (at 4 5))))))))))) (s.expression (n 28) (s.paren (s.expression (n 27) (s.binary binary.Eq (s.expression (n 24) (s.binary binary.Sub (s.expression (n 22) (s.name (at 0 1))) (s.expression (n 23) (s.name (at 1 2))))) (s.expression (n 26) (s.unary unary.Minus (s.expression (n 25) (s.number (at 5 6))))))))))) (s.expression (n 36) (s.paren (s.expression (n 35) (s.binary binary.Eq (s.expression (n 33) (s.paren (s.expression (n 32) (s.binary binary.And (s.expression (n 30) (s.name (at 0 1))) (s.expression (n 31) (s.name (at 1 2))))))) (s.expression (n 34) (s.number (at 6 7))))))))) (s.expression (n 45) (s.paren (s.expression (n 44) (s.binary binary.Eq (s.expression (n 41) (s.paren (s.expression (n 40) (s.binary binary.Or (s.expression (n 38) (s.name (at 0 1))) (s.expression (n 39) (s.name (at 1 2))))))) (s.expression (n 43) (s.unary unary.Minus (s.expression (n 42) (s.number (at 4 5))))))))))) (s.expression (n 54) (s.paren (s.expression (n 53) (s.binary binary.Eq (s.expression (n 50) (s.paren (s.expression (n 49) (s.binary binary.Xor (s.expression (n 47) (s.name (at 0 1))) (s.expression (n 48) (s.name (at 1 2))))))) (s.expression (n 52) (s.unary unary.Minus (s.expression (n 51) (s.number (at 7 8))))))))))) (s.expression (n 61) (s.paren (s.expression (n 60) (s.binary binary.Eq (s.expression (n 58) (s.binary binary.Right (s.expression (n 56) (s.name (at 1 2))) (s.expression (n 57) (s.number (at 4 5))))) (s.expression (n 59) (s.number (at 4 5))))))))) (s.expression (n 69) (s.paren (s.expression (n 68) (s.binary binary.Eq (s.expression (n 65) (s.binary binary.Right (s.expression (n 63) (s.name (at 0 1))) (s.expression (n 64) (s.number (at 4 5))))) (s.expression (n 67) (s.unary unary.Minus (s.expression (n 66) (s.number (at 4 5))))))))))) (s.expression (n 76) (s.paren (s.expression (n 75) (s.binary binary.Eq (s.expression (n 73) (s.binary binary.Left (s.expression (n 71) (s.name (at 1 2))) (s.expression (n 72) (s.number (at 6 7))))) (s.expression (n 74) (s.number (at 8 10))))))))))))) s.no_parts))))

operators_of_small : path operators_typing all_kinds operators_tree ((negsuc 1) ∷ (pos 3) ∷ []) ≡ Seen 12 false None ∷ Seen 19 false None ∷ Seen 27 true None ∷ Seen 35 true None ∷ Seen 44 true None ∷ Seen 53 true None ∷ Seen 60 true None ∷ Seen 68 true None ∷ Seen 75 true None ∷ []
operators_of_small = refl

-- `int f(int x, unsigned u) { if ((x ? x : u) > 0) return 1; return 0; }`
abbrev choice_typing : Typing
choice_typing = told (120 ∷ 117 ∷ 102 ∷ 48 ∷ 49 ∷ []) ((2, (integer_type kind.Int)) ∷ (5, (integer_type kind.UInt)) ∷ (8, (integer_type kind.Int)) ∷ (9, (integer_type kind.Int)) ∷ (10, (integer_type kind.UInt)) ∷ (11, (integer_type kind.UInt)) ∷ (12, (integer_type kind.UInt)) ∷ (13, (integer_type kind.Int)) ∷ (14, (integer_type kind.Int)) ∷ (15, (integer_type kind.Int)) ∷ (18, (integer_type kind.Int)) ∷ []) ((8, 2) ∷ (9, 2) ∷ (10, 5) ∷ []) ((13, (pos 0)) ∷ (15, (pos 1)) ∷ (18, (pos 0)) ∷ []) ([]) ([]) ([]) ([])

abbrev choice_tree : FunctionTree
choice_tree = (s.function None (s.base (n 0) (s.words (fixed.Int ∷ []))) (s.declarator (n 7) 0 (Some (at 2 3)) (s.with_parameters (s.then_parameter (s.parameter (n 3) (s.base (n 1) (s.words (fixed.Int ∷ []))) (s.declarator (n 2) 0 (Some (at 0 1)) (s.arrays s.no_dimensions) s.no_initialiser)) (s.then_parameter (s.parameter (n 6) (s.base (n 4) (s.words (fixed.Unsigned ∷ []))) (s.declarator (n 5) 0 (Some (at 1 2)) (s.arrays s.no_dimensions) s.no_initialiser)) s.no_parameters)) false) s.no_initialiser) (s.statement (n 20) (s.block (s.then_part (s.run (s.statement (n 17) (s.if_statement (s.expression (n 14) (s.binary binary.Gt (s.expression (n 12) (s.paren (s.expression (n 11) (s.choice (s.expression (n 8) (s.name (at 0 1))) (s.expression (n 9) (s.name (at 0 1))) (s.expression (n 10) (s.name (at 1 2))))))) (s.expression (n 13) (s.number (at 3 4))))) (s.statement (n 16) (s.return_statement (s.some_expression (s.expression (n 15) (s.number (at 4 5)))))) s.no_statement))) (s.then_part (s.run (s.statement (n 19) (s.return_statement (s.some_expression (s.expression (n 18) (s.number (at 3 4))))))) s.no_parts)))))

choice_converted : path choice_typing all_kinds choice_tree ((negsuc 0) ∷ (pos 0) ∷ []) ≡ Seen 8 true None ∷ Enter 9 ∷ Seen 14 true None ∷ Enter 16 ∷ []
choice_converted = refl

choice_other : path choice_typing all_kinds choice_tree ((pos 0) ∷ (pos 0) ∷ []) ≡ Seen 8 false None ∷ Enter 10 ∷ Seen 14 false None ∷ []
choice_other = refl

-- `int f(int x) { return (x++, x == 2); }`
abbrev joined_typing : Typing
joined_typing = told (120 ∷ 102 ∷ 50 ∷ []) ((2, (integer_type kind.Int)) ∷ (5, (integer_type kind.Int)) ∷ (6, (integer_type kind.Int)) ∷ (7, (integer_type kind.Int)) ∷ (8, (integer_type kind.Int)) ∷ (9, (integer_type kind.Int)) ∷ (10, (integer_type kind.Int)) ∷ (11, (integer_type kind.Int)) ∷ []) ((5, 2) ∷ (7, 2) ∷ []) ((8, (pos 2)) ∷ []) ([]) ([]) ([]) ([])

abbrev joined_tree : FunctionTree
joined_tree = (s.function None (s.base (n 0) (s.words (fixed.Int ∷ []))) (s.declarator (n 4) 0 (Some (at 1 2)) (s.with_parameters (s.then_parameter (s.parameter (n 3) (s.base (n 1) (s.words (fixed.Int ∷ []))) (s.declarator (n 2) 0 (Some (at 0 1)) (s.arrays s.no_dimensions) s.no_initialiser)) s.no_parameters) false) s.no_initialiser) (s.statement (n 13) (s.block (s.then_part (s.run (s.statement (n 12) (s.return_statement (s.some_expression (s.expression (n 11) (s.paren (s.expression (n 10) (s.binary binary.Comma (s.expression (n 6) (s.step step.IncAfter (s.expression (n 5) (s.name (at 0 1))))) (s.expression (n 9) (s.binary binary.Eq (s.expression (n 7) (s.name (at 0 1))) (s.expression (n 8) (s.number (at 2 3))))))))))))) s.no_parts))))

joined_in_order : path joined_typing all_kinds joined_tree ((pos 1) ∷ []) ≡ Seen 9 true None ∷ []
joined_in_order = refl

-- `int f(unsigned char c, int y) { c += y; if (c == 44) return 1; return (c = y) == y; }`
abbrev assigned_typing : Typing
assigned_typing = told (99 ∷ 121 ∷ 102 ∷ 52 ∷ 52 ∷ 49 ∷ []) ((2, (integer_type kind.UChar)) ∷ (5, (integer_type kind.Int)) ∷ (8, (integer_type kind.UChar)) ∷ (9, (integer_type kind.Int)) ∷ (10, (integer_type kind.UChar)) ∷ (12, (integer_type kind.UChar)) ∷ (13, (integer_type kind.Int)) ∷ (14, (integer_type kind.Int)) ∷ (15, (integer_type kind.Int)) ∷ (18, (integer_type kind.UChar)) ∷ (19, (integer_type kind.Int)) ∷ (20, (integer_type kind.UChar)) ∷ (21, (integer_type kind.UChar)) ∷ (22, (integer_type kind.Int)) ∷ (23, (integer_type kind.Int)) ∷ []) ((8, 2) ∷ (9, 5) ∷ (12, 2) ∷ (18, 2) ∷ (19, 5) ∷ (22, 5) ∷ []) ((13, (pos 44)) ∷ (15, (pos 1)) ∷ []) ([]) ([]) ([]) ([])

abbrev assigned_tree : FunctionTree
assigned_tree = (s.function None (s.base (n 0) (s.words (fixed.Int ∷ []))) (s.declarator (n 7) 0 (Some (at 2 3)) (s.with_parameters (s.then_parameter (s.parameter (n 3) (s.base (n 1) (s.words (fixed.Unsigned ∷ fixed.Char ∷ []))) (s.declarator (n 2) 0 (Some (at 0 1)) (s.arrays s.no_dimensions) s.no_initialiser)) (s.then_parameter (s.parameter (n 6) (s.base (n 4) (s.words (fixed.Int ∷ []))) (s.declarator (n 5) 0 (Some (at 1 2)) (s.arrays s.no_dimensions) s.no_initialiser)) s.no_parameters)) false) s.no_initialiser) (s.statement (n 25) (s.block (s.then_part (s.run (s.statement (n 11) (s.expression_statement (s.some_expression (s.expression (n 10) (s.assign assign.Add (s.expression (n 8) (s.name (at 0 1))) (s.expression (n 9) (s.name (at 1 2))))))))) (s.then_part (s.run (s.statement (n 17) (s.if_statement (s.expression (n 14) (s.binary binary.Eq (s.expression (n 12) (s.name (at 0 1))) (s.expression (n 13) (s.number (at 3 5))))) (s.statement (n 16) (s.return_statement (s.some_expression (s.expression (n 15) (s.number (at 5 6)))))) s.no_statement))) (s.then_part (s.run (s.statement (n 24) (s.return_statement (s.some_expression (s.expression (n 23) (s.binary binary.Eq (s.expression (n 21) (s.paren (s.expression (n 20) (s.assign assign.Plain (s.expression (n 18) (s.name (at 0 1))) (s.expression (n 19) (s.name (at 1 2))))))) (s.expression (n 22) (s.name (at 1 2))))))))) s.no_parts))))))

assigned_wrapped : path assigned_typing all_kinds assigned_tree ((pos 200) ∷ (pos 100) ∷ []) ≡ Seen 14 true None ∷ Enter 16 ∷ []
assigned_wrapped = refl

assigned_in_its_type : path assigned_typing all_kinds assigned_tree ((pos 0) ∷ (pos 256) ∷ []) ≡ Seen 14 false None ∷ Seen 23 false None ∷ []
assigned_in_its_type = refl

-- `int f(int *p, int y) { *p /= y; return *p; }`
abbrev compound_typing : Typing
compound_typing = told (112 ∷ 121 ∷ 102 ∷ []) ((2, (pointer_type (integer_type kind.Int))) ∷ (5, (integer_type kind.Int)) ∷ (8, (pointer_type (integer_type kind.Int))) ∷ (9, (integer_type kind.Int)) ∷ (10, (integer_type kind.Int)) ∷ (11, (integer_type kind.Int)) ∷ (13, (pointer_type (integer_type kind.Int))) ∷ (14, (integer_type kind.Int)) ∷ []) ((8, 2) ∷ (10, 5) ∷ (13, 2) ∷ []) ([]) ([]) ([]) ([]) ([])

abbrev compound_tree : FunctionTree
compound_tree = (s.function None (s.base (n 0) (s.words (fixed.Int ∷ []))) (s.declarator (n 7) 0 (Some (at 2 3)) (s.with_parameters (s.then_parameter (s.parameter (n 3) (s.base (n 1) (s.words (fixed.Int ∷ []))) (s.declarator (n 2) 1 (Some (at 0 1)) (s.arrays s.no_dimensions) s.no_initialiser)) (s.then_parameter (s.parameter (n 6) (s.base (n 4) (s.words (fixed.Int ∷ []))) (s.declarator (n 5) 0 (Some (at 1 2)) (s.arrays s.no_dimensions) s.no_initialiser)) s.no_parameters)) false) s.no_initialiser) (s.statement (n 16) (s.block (s.then_part (s.run (s.statement (n 12) (s.expression_statement (s.some_expression (s.expression (n 11) (s.assign assign.Div (s.expression (n 9) (s.unary unary.Deref (s.expression (n 8) (s.name (at 0 1))))) (s.expression (n 10) (s.name (at 1 2))))))))) (s.then_part (s.run (s.statement (n 15) (s.return_statement (s.some_expression (s.expression (n 14) (s.unary unary.Deref (s.expression (n 13) (s.name (at 0 1))))))))) s.no_parts)))))

compound_zero : path compound_typing all_kinds compound_tree ((pos 0) ∷ (pos 0) ∷ (pos 5) ∷ (pos 6) ∷ []) ≡ ub_at 9 ub.Null ∷ ub_at 11 ub.Zero ∷ ub_at 14 ub.Null ∷ []
compound_zero = refl

-- `int f(int *a, int i) { a[i] = i++; return i == 4; }`
abbrev stored_typing : Typing
stored_typing = told (97 ∷ 105 ∷ 102 ∷ 52 ∷ []) ((2, (pointer_type (integer_type kind.Int))) ∷ (5, (integer_type kind.Int)) ∷ (8, (pointer_type (integer_type kind.Int))) ∷ (9, (integer_type kind.Int)) ∷ (10, (integer_type kind.Int)) ∷ (11, (integer_type kind.Int)) ∷ (12, (integer_type kind.Int)) ∷ (13, (integer_type kind.Int)) ∷ (15, (integer_type kind.Int)) ∷ (16, (integer_type kind.Int)) ∷ (17, (integer_type kind.Int)) ∷ []) ((8, 2) ∷ (9, 5) ∷ (11, 5) ∷ (15, 5) ∷ []) ((16, (pos 4)) ∷ []) ([]) ([]) ([]) ([])

abbrev stored_tree : FunctionTree
stored_tree = (s.function None (s.base (n 0) (s.words (fixed.Int ∷ []))) (s.declarator (n 7) 0 (Some (at 2 3)) (s.with_parameters (s.then_parameter (s.parameter (n 3) (s.base (n 1) (s.words (fixed.Int ∷ []))) (s.declarator (n 2) 1 (Some (at 0 1)) (s.arrays s.no_dimensions) s.no_initialiser)) (s.then_parameter (s.parameter (n 6) (s.base (n 4) (s.words (fixed.Int ∷ []))) (s.declarator (n 5) 0 (Some (at 1 2)) (s.arrays s.no_dimensions) s.no_initialiser)) s.no_parameters)) false) s.no_initialiser) (s.statement (n 19) (s.block (s.then_part (s.run (s.statement (n 14) (s.expression_statement (s.some_expression (s.expression (n 13) (s.assign assign.Plain (s.expression (n 10) (s.index (s.expression (n 8) (s.name (at 0 1))) (s.expression (n 9) (s.name (at 1 2))))) (s.expression (n 12) (s.step step.IncAfter (s.expression (n 11) (s.name (at 1 2))))))))))) (s.then_part (s.run (s.statement (n 18) (s.return_statement (s.some_expression (s.expression (n 17) (s.binary binary.Eq (s.expression (n 15) (s.name (at 1 2))) (s.expression (n 16) (s.number (at 3 4))))))))) s.no_parts)))))

stored_right_side_first : path stored_typing all_kinds stored_tree ((pos 0) ∷ (pos 3) ∷ []) ≡ ub_at 10 ub.Null ∷ Seen 17 true None ∷ []
stored_right_side_first = refl

-- `int f(int x) { if (g(x)) h(); if (x) die(1); return g(2) == g(3); }` behind `struct in { unsigned char lo; short hi;
-- }; struct node { int n; struct node *next; struct in in; int row[3]; }; enum color { RED, GREEN = 5 }; extern int
-- g(int); extern void h(void); extern void die(int) __attribute__((noreturn)); int total; int open[]; int grid[2][3];
-- struct node head;`
abbrev outside_typing : Typing
outside_typing = told (120 ∷ 102 ∷ 103 ∷ 104 ∷ 100 ∷ 105 ∷ 101 ∷ 49 ∷ 50 ∷ 51 ∷ []) ((2, (integer_type kind.Int)) ∷ (6, (integer_type kind.Int)) ∷ (7, (integer_type kind.Int)) ∷ (12, (integer_type kind.Int)) ∷ (14, (integer_type kind.Int)) ∷ (19, (integer_type kind.Int)) ∷ (20, (integer_type kind.Int)) ∷ (22, (integer_type kind.Int)) ∷ (23, (integer_type kind.Int)) ∷ (24, (integer_type kind.Int)) ∷ []) ((6, 2) ∷ (12, 2) ∷ []) ((14, (pos 1)) ∷ (19, (pos 2)) ∷ (22, (pos 3)) ∷ []) ([]) ((Some 4) ∷ (Some 32) ∷ []) ([]) ((2, (signature (integer_type kind.Int) (then_type (integer_type kind.Int) no_types) false false)) ∷ (3, (signature void_type no_types false false)) ∷ (4, (signature void_type (then_type (integer_type kind.Int) no_types) false true)) ∷ [])

abbrev outside_tree : FunctionTree
outside_tree = (s.function None (s.base (n 0) (s.words (fixed.Int ∷ []))) (s.declarator (n 4) 0 (Some (at 1 2)) (s.with_parameters (s.then_parameter (s.parameter (n 3) (s.base (n 1) (s.words (fixed.Int ∷ []))) (s.declarator (n 2) 0 (Some (at 0 1)) (s.arrays s.no_dimensions) s.no_initialiser)) s.no_parameters) false) s.no_initialiser) (s.statement (n 26) (s.block (s.then_part (s.run (s.statement (n 11) (s.if_statement (s.expression (n 7) (s.call (s.expression (n 5) (s.name (at 2 3))) (s.then_expression (s.expression (n 6) (s.name (at 0 1))) s.no_expressions))) (s.statement (n 10) (s.expression_statement (s.some_expression (s.expression (n 9) (s.call (s.expression (n 8) (s.name (at 3 4))) s.no_expressions))))) s.no_statement))) (s.then_part (s.run (s.statement (n 17) (s.if_statement (s.expression (n 12) (s.name (at 0 1))) (s.statement (n 16) (s.expression_statement (s.some_expression (s.expression (n 15) (s.call (s.expression (n 13) (s.name (at 4 7))) (s.then_expression (s.expression (n 14) (s.number (at 7 8))) s.no_expressions)))))) s.no_statement))) (s.then_part (s.run (s.statement (n 25) (s.return_statement (s.some_expression (s.expression (n 24) (s.binary binary.Eq (s.expression (n 20) (s.call (s.expression (n 18) (s.name (at 2 3))) (s.then_expression (s.expression (n 19) (s.number (at 8 9))) s.no_expressions))) (s.expression (n 23) (s.call (s.expression (n 21) (s.name (at 2 3))) (s.then_expression (s.expression (n 22) (s.number (at 9 10))) s.no_expressions))))))))) s.no_parts))))))

outside_returns : path outside_typing all_kinds outside_tree ((pos 0) ∷ (pos 1) ∷ (pos 7) ∷ (pos 8) ∷ []) ≡ Seen 7 true None ∷ Enter 10 ∷ Seen 12 false None ∷ Seen 24 false None ∷ []
outside_returns = refl

outside_never_returns : path outside_typing all_kinds outside_tree ((pos 1) ∷ (pos 0) ∷ (pos 7) ∷ (pos 8) ∷ []) ≡ Seen 7 false None ∷ Seen 12 true None ∷ Enter 16 ∷ []
outside_never_returns = refl

-- `int f(int x, int y) { return (y + x < x) + (x < x + y) + (x - y < x) + (x < x - y) + ((x) + y < x) + (x + y < (x));
-- }`
abbrev replaced_typing : Typing
replaced_typing = told (120 ∷ 121 ∷ 102 ∷ []) ((2, (integer_type kind.Int)) ∷ (5, (integer_type kind.Int)) ∷ (8, (integer_type kind.Int)) ∷ (9, (integer_type kind.Int)) ∷ (10, (integer_type kind.Int)) ∷ (11, (integer_type kind.Int)) ∷ (12, (integer_type kind.Int)) ∷ (13, (integer_type kind.Int)) ∷ (14, (integer_type kind.Int)) ∷ (15, (integer_type kind.Int)) ∷ (16, (integer_type kind.Int)) ∷ (17, (integer_type kind.Int)) ∷ (18, (integer_type kind.Int)) ∷ (19, (integer_type kind.Int)) ∷ (20, (integer_type kind.Int)) ∷ (21, (integer_type kind.Int)) ∷ (22, (integer_type kind.Int)) ∷ (23, (integer_type kind.Int)) ∷ (24, (integer_type kind.Int)) ∷ (25, (integer_type kind.Int)) ∷ (26, (integer_type kind.Int)) ∷ (27, (integer_type kind.Int)) ∷ (28, (integer_type kind.Int)) ∷ (29, (integer_type kind.Int)) ∷ (30, (integer_type kind.Int)) ∷ (31, (integer_type kind.Int)) ∷ (32, (integer_type kind.Int)) ∷ (33, (integer_type kind.Int)) ∷ (34, (integer_type kind.Int)) ∷ (35, (integer_type kind.Int)) ∷ (36, (integer_type kind.Int)) ∷ (37, (integer_type kind.Int)) ∷ (38, (integer_type kind.Int)) ∷ (39, (integer_type kind.Int)) ∷ (40, (integer_type kind.Int)) ∷ (41, (integer_type kind.Int)) ∷ (42, (integer_type kind.Int)) ∷ (43, (integer_type kind.Int)) ∷ (44, (integer_type kind.Int)) ∷ (45, (integer_type kind.Int)) ∷ (46, (integer_type kind.Int)) ∷ (47, (integer_type kind.Int)) ∷ (48, (integer_type kind.Int)) ∷ (49, (integer_type kind.Int)) ∷ (50, (integer_type kind.Int)) ∷ []) ((8, 5) ∷ (9, 2) ∷ (11, 2) ∷ (14, 2) ∷ (15, 2) ∷ (16, 5) ∷ (21, 2) ∷ (22, 5) ∷ (24, 2) ∷ (28, 2) ∷ (29, 2) ∷ (30, 5) ∷ (35, 2) ∷ (37, 5) ∷ (39, 2) ∷ (43, 2) ∷ (44, 5) ∷ (46, 2) ∷ []) ([]) ([]) ([]) ([]) ([])

abbrev replaced_tree : FunctionTree
replaced_tree = (s.function None (s.base (n 0) (s.words (fixed.Int ∷ []))) (s.declarator (n 7) 0 (Some (at 2 3)) (s.with_parameters (s.then_parameter (s.parameter (n 3) (s.base (n 1) (s.words (fixed.Int ∷ []))) (s.declarator (n 2) 0 (Some (at 0 1)) (s.arrays s.no_dimensions) s.no_initialiser)) (s.then_parameter (s.parameter (n 6) (s.base (n 4) (s.words (fixed.Int ∷ []))) (s.declarator (n 5) 0 (Some (at 1 2)) (s.arrays s.no_dimensions) s.no_initialiser)) s.no_parameters)) false) s.no_initialiser) (s.statement (n 52) (s.block (s.then_part (s.run (s.statement (n 51) (s.return_statement (s.some_expression (s.expression (n 50) (s.binary binary.Add (s.expression (n 42) (s.binary binary.Add (s.expression (n 34) (s.binary binary.Add (s.expression (n 27) (s.binary binary.Add (s.expression (n 20) (s.binary binary.Add (s.expression (n 13) (s.paren (s.expression (n 12) (s.binary binary.Lt (s.expression (n 10) (s.binary binary.Add (s.expression (n 8) (s.name (at 1 2))) (s.expression (n 9) (s.name (at 0 1))))) (s.expression (n 11) (s.name (at 0 1))))))) (s.expression (n 19) (s.paren (s.expression (n 18) (s.binary binary.Lt (s.expression (n 14) (s.name (at 0 1))) (s.expression (n 17) (s.binary binary.Add (s.expression (n 15) (s.name (at 0 1))) (s.expression (n 16) (s.name (at 1 2))))))))))) (s.expression (n 26) (s.paren (s.expression (n 25) (s.binary binary.Lt (s.expression (n 23) (s.binary binary.Sub (s.expression (n 21) (s.name (at 0 1))) (s.expression (n 22) (s.name (at 1 2))))) (s.expression (n 24) (s.name (at 0 1))))))))) (s.expression (n 33) (s.paren (s.expression (n 32) (s.binary binary.Lt (s.expression (n 28) (s.name (at 0 1))) (s.expression (n 31) (s.binary binary.Sub (s.expression (n 29) (s.name (at 0 1))) (s.expression (n 30) (s.name (at 1 2))))))))))) (s.expression (n 41) (s.paren (s.expression (n 40) (s.binary binary.Lt (s.expression (n 38) (s.binary binary.Add (s.expression (n 36) (s.paren (s.expression (n 35) (s.name (at 0 1))))) (s.expression (n 37) (s.name (at 1 2))))) (s.expression (n 39) (s.name (at 0 1))))))))) (s.expression (n 49) (s.paren (s.expression (n 48) (s.binary binary.Lt (s.expression (n 45) (s.binary binary.Add (s.expression (n 43) (s.name (at 0 1))) (s.expression (n 44) (s.name (at 1 2))))) (s.expression (n 47) (s.paren (s.expression (n 46) (s.name (at 0 1))))))))))))))) s.no_parts))))

replaced_each : path replaced_typing all_kinds replaced_tree ((pos 5) ∷ (negsuc 2) ∷ []) ≡ Seen 12 true (Some true) ∷ Seen 18 false (Some false) ∷ Seen 25 false (Some false) ∷ Seen 32 true (Some true) ∷ Seen 40 true None ∷ Seen 48 true (Some true) ∷ []
replaced_each = refl
