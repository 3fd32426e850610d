-- Executions, and beside some of them what path runs forget.
use Rattle.std.proofs.Common.{◌≡◌, true, false, [], ◌∷◌, Some, None, pos, refl}
use Rattle.stk_ctype.specs.declared.kind.IntKind.TheVariants as kind
use Rattle.stk_ctype.specs.Types.{void_type, integer_type, pointer_type, array_type, struct_type, no_types, then_type, signature}
use Rattle.stk_tree.specs.declared.fixed.Fixed.TheVariants as fixed
use Rattle.stk_tree.specs.declared.expression.StepOp.TheVariants as step
use Rattle.stk_tree.specs.declared.expression.UnaryOp.TheVariants as unary
use Rattle.stk_tree.specs.declared.expression.BinaryOp.TheVariants as binary
use Rattle.stk_tree.specs.declared.expression.AssignOp.TheVariants as assign
use Rattle.stk_tree.specs.Syntax.{FunctionTree}
use Rattle.stk_tree.specs.Syntax as s
use Rattle.stk_numbers.specs.declared.conditions.UbKind.TheVariants as ub
use Rattle.stk_meaning.specs.declared.entry.Entry.TheVariants.{Enter, Seen}
use Rattle.stk_meaning.specs.Typings.{Typing}
use Rattle.stk_meaning.specs.Paths.{path}
use Rattle.stk_meaning.specs.Memory.{put_all}
use Rattle.stk_meaning.specs.Executions.{execution}
use Rattle.stk_meaning.proofs.Told.{told, n, at, start_at, answer, no_memory, ub_at, all_kinds}

-- `int f(int n) { int i; for (i = 0; i < n; i++) if (i < 0) return 1; return 0; }`
abbrev twice_typing : Typing
twice_typing = told (110 ∷ 102 ∷ 105 ∷ 48 ∷ 49 ∷ []) ((2, (integer_type kind.Int)) ∷ (6, (integer_type kind.Int)) ∷ (7, (integer_type kind.Int)) ∷ (8, (integer_type kind.Int)) ∷ (9, (integer_type kind.Int)) ∷ (10, (integer_type kind.Int)) ∷ (11, (integer_type kind.Int)) ∷ (12, (integer_type kind.Int)) ∷ (13, (integer_type kind.Int)) ∷ (14, (integer_type kind.Int)) ∷ (15, (integer_type kind.Int)) ∷ (16, (integer_type kind.Int)) ∷ (17, (integer_type kind.Int)) ∷ (18, (integer_type kind.Int)) ∷ (22, (integer_type kind.Int)) ∷ []) ((7, 6) ∷ (10, 6) ∷ (11, 2) ∷ (13, 6) ∷ (15, 6) ∷ []) ((8, (pos 0)) ∷ (16, (pos 0)) ∷ (18, (pos 1)) ∷ (22, (pos 0)) ∷ []) ([]) ([]) ([]) ([])

abbrev twice_tree : FunctionTree
twice_tree = (s.function None (s.base (n 0) (s.words (fixed.Int ∷ []))) (s.declarator (n 4) 0 (Some (at 1 2)) (s.with_parameters (s.then_parameter (s.parameter (n 3) (s.base (n 1) (s.words (fixed.Int ∷ []))) (s.declarator (n 2) 0 (Some (at 0 1)) (s.arrays s.no_dimensions) s.no_initialiser)) s.no_parameters) false) s.no_initialiser) (s.statement (n 24) (s.block (s.then_part (s.local (s.declaration None (s.base (n 5) (s.words (fixed.Int ∷ []))) (s.then_declarator (s.declarator (n 6) 0 (Some (at 2 3)) (s.arrays s.no_dimensions) s.no_initialiser) s.no_declarators))) (s.then_part (s.run (s.statement (n 21) (s.for_statement (s.start_expression (s.some_expression (s.expression (n 9) (s.assign assign.Plain (s.expression (n 7) (s.name (at 2 3))) (s.expression (n 8) (s.number (at 3 4))))))) (s.some_expression (s.expression (n 12) (s.binary binary.Lt (s.expression (n 10) (s.name (at 2 3))) (s.expression (n 11) (s.name (at 0 1)))))) (s.some_expression (s.expression (n 14) (s.step step.IncAfter (s.expression (n 13) (s.name (at 2 3)))))) (s.statement (n 20) (s.if_statement (s.expression (n 17) (s.binary binary.Lt (s.expression (n 15) (s.name (at 2 3))) (s.expression (n 16) (s.number (at 3 4))))) (s.statement (n 19) (s.return_statement (s.some_expression (s.expression (n 18) (s.number (at 4 5)))))) s.no_statement))))) (s.then_part (s.run (s.statement (n 23) (s.return_statement (s.some_expression (s.expression (n 22) (s.number (at 3 4))))))) s.no_parts))))))

twice_ends : execution twice_typing all_kinds twice_tree (start_at ((2, (pos 2)) ∷ []) ([])) (put_all ([]) no_memory) (answer (pos 7) ([]) ∷ []) 3 ≡ Seen 12 true None ∷ Enter 20 ∷ Seen 17 false None ∷ Seen 12 true None ∷ Enter 20 ∷ Seen 17 false None ∷ Seen 12 false None ∷ []
twice_ends = refl

twice_is_cut : execution twice_typing all_kinds twice_tree (start_at ((2, (pos 9)) ∷ []) ([])) (put_all ([]) no_memory) (answer (pos 7) ([]) ∷ []) 2 ≡ Seen 12 true None ∷ Enter 20 ∷ Seen 17 false None ∷ Seen 12 true None ∷ Enter 20 ∷ Seen 17 false None ∷ []
twice_is_cut = refl

twice_has_no_answer : execution twice_typing all_kinds twice_tree (start_at ((2, (pos 9)) ∷ []) ([])) (put_all ([]) no_memory) ([]) 2 ≡ []
twice_has_no_answer = refl

-- `int f(int *p, int k) { int x = k; int *q = &x; *q = 5; if (x == 5) return *p; return 0; }`
abbrev through_typing : Typing
through_typing = told (112 ∷ 107 ∷ 102 ∷ 120 ∷ 113 ∷ 53 ∷ 48 ∷ []) ((2, (pointer_type (integer_type kind.Int))) ∷ (5, (integer_type kind.Int)) ∷ (9, (integer_type kind.Int)) ∷ (10, (integer_type kind.Int)) ∷ (12, (integer_type kind.Int)) ∷ (13, (pointer_type (integer_type kind.Int))) ∷ (14, (pointer_type (integer_type kind.Int))) ∷ (15, (pointer_type (integer_type kind.Int))) ∷ (16, (integer_type kind.Int)) ∷ (17, (integer_type kind.Int)) ∷ (18, (integer_type kind.Int)) ∷ (20, (integer_type kind.Int)) ∷ (21, (integer_type kind.Int)) ∷ (22, (integer_type kind.Int)) ∷ (23, (pointer_type (integer_type kind.Int))) ∷ (24, (integer_type kind.Int)) ∷ (27, (integer_type kind.Int)) ∷ []) ((9, 5) ∷ (12, 10) ∷ (15, 14) ∷ (20, 10) ∷ (23, 2) ∷ []) ((17, (pos 5)) ∷ (21, (pos 5)) ∷ (27, (pos 0)) ∷ []) (10 ∷ []) ([]) ([]) ([])

abbrev through_tree : FunctionTree
through_tree = (s.function None (s.base (n 0) (s.words (fixed.Int ∷ []))) (s.declarator (n 7) 0 (Some (at 2 3)) (s.with_parameters (s.then_parameter (s.parameter (n 3) (s.base (n 1) (s.words (fixed.Int ∷ []))) (s.declarator (n 2) 1 (Some (at 0 1)) (s.arrays s.no_dimensions) s.no_initialiser)) (s.then_parameter (s.parameter (n 6) (s.base (n 4) (s.words (fixed.Int ∷ []))) (s.declarator (n 5) 0 (Some (at 1 2)) (s.arrays s.no_dimensions) s.no_initialiser)) s.no_parameters)) false) s.no_initialiser) (s.statement (n 29) (s.block (s.then_part (s.local (s.declaration None (s.base (n 8) (s.words (fixed.Int ∷ []))) (s.then_declarator (s.declarator (n 10) 0 (Some (at 3 4)) (s.arrays s.no_dimensions) (s.some_initialiser (s.plain (s.expression (n 9) (s.name (at 1 2)))))) s.no_declarators))) (s.then_part (s.local (s.declaration None (s.base (n 11) (s.words (fixed.Int ∷ []))) (s.then_declarator (s.declarator (n 14) 1 (Some (at 4 5)) (s.arrays s.no_dimensions) (s.some_initialiser (s.plain (s.expression (n 13) (s.unary unary.Address (s.expression (n 12) (s.name (at 3 4)))))))) s.no_declarators))) (s.then_part (s.run (s.statement (n 19) (s.expression_statement (s.some_expression (s.expression (n 18) (s.assign assign.Plain (s.expression (n 16) (s.unary unary.Deref (s.expression (n 15) (s.name (at 4 5))))) (s.expression (n 17) (s.number (at 5 6))))))))) (s.then_part (s.run (s.statement (n 26) (s.if_statement (s.expression (n 22) (s.binary binary.Eq (s.expression (n 20) (s.name (at 3 4))) (s.expression (n 21) (s.number (at 5 6))))) (s.statement (n 25) (s.return_statement (s.some_expression (s.expression (n 24) (s.unary unary.Deref (s.expression (n 23) (s.name (at 0 1)))))))) s.no_statement))) (s.then_part (s.run (s.statement (n 28) (s.return_statement (s.some_expression (s.expression (n 27) (s.number (at 6 7))))))) s.no_parts))))))))

through_execution : execution through_typing all_kinds through_tree (start_at ((2, (pos 0)) ∷ (5, (pos 7)) ∷ []) ((10, 4096) ∷ [])) (put_all ([]) no_memory) ([]) 1 ≡ Seen 22 true None ∷ Enter 25 ∷ ub_at 24 ub.Null ∷ []
through_execution = refl

through_path_forgets : path through_typing all_kinds through_tree ((pos 0) ∷ (pos 7) ∷ (pos 4096) ∷ (pos 6) ∷ (pos 1) ∷ []) ≡ Seen 22 false None ∷ []
through_path_forgets = refl

-- `int total; int f(int n) { total = 1; while (n) { if (total == 1) n = 0; total = 2; } return total == 2; }`
abbrev looped_typing : Typing
looped_typing = told (110 ∷ 102 ∷ 116 ∷ 111 ∷ 116 ∷ 97 ∷ 108 ∷ 49 ∷ 48 ∷ 50 ∷ []) ((2, (integer_type kind.Int)) ∷ (5, (integer_type kind.Int)) ∷ (6, (integer_type kind.Int)) ∷ (7, (integer_type kind.Int)) ∷ (9, (integer_type kind.Int)) ∷ (10, (integer_type kind.Int)) ∷ (11, (integer_type kind.Int)) ∷ (12, (integer_type kind.Int)) ∷ (13, (integer_type kind.Int)) ∷ (14, (integer_type kind.Int)) ∷ (15, (integer_type kind.Int)) ∷ (18, (integer_type kind.Int)) ∷ (19, (integer_type kind.Int)) ∷ (20, (integer_type kind.Int)) ∷ (24, (integer_type kind.Int)) ∷ (25, (integer_type kind.Int)) ∷ (26, (integer_type kind.Int)) ∷ []) ((9, 2) ∷ (13, 2) ∷ []) ((6, (pos 1)) ∷ (11, (pos 1)) ∷ (14, (pos 0)) ∷ (19, (pos 2)) ∷ (25, (pos 2)) ∷ []) ([]) ([]) ([]) ([])

abbrev looped_tree : FunctionTree
looped_tree = (s.function None (s.base (n 0) (s.words (fixed.Int ∷ []))) (s.declarator (n 4) 0 (Some (at 1 2)) (s.with_parameters (s.then_parameter (s.parameter (n 3) (s.base (n 1) (s.words (fixed.Int ∷ []))) (s.declarator (n 2) 0 (Some (at 0 1)) (s.arrays s.no_dimensions) s.no_initialiser)) s.no_parameters) false) s.no_initialiser) (s.statement (n 28) (s.block (s.then_part (s.run (s.statement (n 8) (s.expression_statement (s.some_expression (s.expression (n 7) (s.assign assign.Plain (s.expression (n 5) (s.name (at 2 7))) (s.expression (n 6) (s.number (at 7 8))))))))) (s.then_part (s.run (s.statement (n 23) (s.while_statement (s.expression (n 9) (s.name (at 0 1))) (s.statement (n 22) (s.block (s.then_part (s.run (s.statement (n 17) (s.if_statement (s.expression (n 12) (s.binary binary.Eq (s.expression (n 10) (s.name (at 2 7))) (s.expression (n 11) (s.number (at 7 8))))) (s.statement (n 16) (s.expression_statement (s.some_expression (s.expression (n 15) (s.assign assign.Plain (s.expression (n 13) (s.name (at 0 1))) (s.expression (n 14) (s.number (at 8 9)))))))) s.no_statement))) (s.then_part (s.run (s.statement (n 21) (s.expression_statement (s.some_expression (s.expression (n 20) (s.assign assign.Plain (s.expression (n 18) (s.name (at 2 7))) (s.expression (n 19) (s.number (at 9 10))))))))) s.no_parts))))))) (s.then_part (s.run (s.statement (n 27) (s.return_statement (s.some_expression (s.expression (n 26) (s.binary binary.Eq (s.expression (n 24) (s.name (at 2 7))) (s.expression (n 25) (s.number (at 9 10))))))))) s.no_parts))))))

looped_path_forgets : path looped_typing all_kinds looped_tree ((pos 1) ∷ (pos 64) ∷ (pos 9) ∷ (pos 1) ∷ (pos 3) ∷ []) ≡ Seen 9 true None ∷ Enter 22 ∷ Seen 12 false None ∷ []
looped_path_forgets = refl

looped_execution : execution looped_typing all_kinds looped_tree (start_at ((2, (pos 1)) ∷ []) ((5, 64) ∷ [])) (put_all ([]) no_memory) ([]) 3 ≡ Seen 9 true None ∷ Enter 22 ∷ Seen 12 true None ∷ Enter 16 ∷ Seen 9 false None ∷ Seen 26 true None ∷ []
looped_execution = refl

-- `int f(char *s) { total = 1; memcpy(&total, s, 4); return total == 258; }` behind `extern void *memcpy(void *, const
-- void *, unsigned long); int total;`
abbrev copies_typing : Typing
copies_typing = told (115 ∷ 102 ∷ 116 ∷ 111 ∷ 116 ∷ 97 ∷ 108 ∷ 49 ∷ 109 ∷ 101 ∷ 109 ∷ 99 ∷ 112 ∷ 121 ∷ 52 ∷ 50 ∷ 53 ∷ 56 ∷ []) ((2, (pointer_type (integer_type kind.Char))) ∷ (5, (integer_type kind.Int)) ∷ (6, (integer_type kind.Int)) ∷ (7, (integer_type kind.Int)) ∷ (10, (integer_type kind.Int)) ∷ (11, (pointer_type (integer_type kind.Int))) ∷ (12, (pointer_type (integer_type kind.Char))) ∷ (13, (integer_type kind.Int)) ∷ (14, (pointer_type void_type)) ∷ (16, (integer_type kind.Int)) ∷ (17, (integer_type kind.Int)) ∷ (18, (integer_type kind.Int)) ∷ []) ((12, 2) ∷ []) ((6, (pos 1)) ∷ (13, (pos 4)) ∷ (17, (pos 258)) ∷ []) ([]) ([]) ([]) ((8, (signature (pointer_type void_type) (then_type (pointer_type void_type) (then_type (pointer_type void_type) (then_type (integer_type kind.ULong) no_types))) false false)) ∷ [])

abbrev copies_tree : FunctionTree
copies_tree = (s.function None (s.base (n 0) (s.words (fixed.Int ∷ []))) (s.declarator (n 4) 0 (Some (at 1 2)) (s.with_parameters (s.then_parameter (s.parameter (n 3) (s.base (n 1) (s.words (fixed.Char ∷ []))) (s.declarator (n 2) 1 (Some (at 0 1)) (s.arrays s.no_dimensions) s.no_initialiser)) s.no_parameters) false) s.no_initialiser) (s.statement (n 20) (s.block (s.then_part (s.run (s.statement (n 8) (s.expression_statement (s.some_expression (s.expression (n 7) (s.assign assign.Plain (s.expression (n 5) (s.name (at 2 7))) (s.expression (n 6) (s.number (at 7 8))))))))) (s.then_part (s.run (s.statement (n 15) (s.expression_statement (s.some_expression (s.expression (n 14) (s.call (s.expression (n 9) (s.name (at 8 14))) (s.then_expression (s.expression (n 11) (s.unary unary.Address (s.expression (n 10) (s.name (at 2 7))))) (s.then_expression (s.expression (n 12) (s.name (at 0 1))) (s.then_expression (s.expression (n 13) (s.number (at 14 15))) s.no_expressions))))))))) (s.then_part (s.run (s.statement (n 19) (s.return_statement (s.some_expression (s.expression (n 18) (s.binary binary.Eq (s.expression (n 16) (s.name (at 2 7))) (s.expression (n 17) (s.number (at 15 18))))))))) s.no_parts))))))

copies_path : path copies_typing all_kinds copies_tree ((pos 4000) ∷ (pos 64) ∷ (pos 258) ∷ []) ≡ Seen 18 true None ∷ []
copies_path = refl

copies_execution : execution copies_typing all_kinds copies_tree (start_at ((2, (pos 4000)) ∷ []) ((5, 64) ∷ [])) (put_all ([]) no_memory) (answer (pos 9) (record { address = 64; byte = 2 } ∷ record { address = 65; byte = 1 } ∷ record { address = 66; byte = 0 } ∷ record { address = 67; byte = 0 } ∷ []) ∷ []) 1 ≡ Seen 18 true None ∷ []
copies_execution = refl

copies_overlaps : execution copies_typing all_kinds copies_tree (start_at ((2, (pos 62)) ∷ []) ((5, 64) ∷ [])) (put_all ([]) no_memory) (answer (pos 9) ([]) ∷ []) 1 ≡ ub_at 14 ub.Overlap ∷ Seen 18 false None ∷ []
copies_overlaps = refl

-- `int f(int x) { flag = x; if (g(1) == -1) h(); return flag == 3; }` behind `extern signed char g(int); extern void
-- h(void); int flag;`
abbrev answers_typing : Typing
answers_typing = told (120 ∷ 102 ∷ 102 ∷ 108 ∷ 97 ∷ 103 ∷ 103 ∷ 49 ∷ 104 ∷ 51 ∷ []) ((2, (integer_type kind.Int)) ∷ (5, (integer_type kind.Int)) ∷ (6, (integer_type kind.Int)) ∷ (7, (integer_type kind.Int)) ∷ (10, (integer_type kind.Int)) ∷ (11, (integer_type kind.SChar)) ∷ (12, (integer_type kind.Int)) ∷ (13, (integer_type kind.Int)) ∷ (14, (integer_type kind.Int)) ∷ (19, (integer_type kind.Int)) ∷ (20, (integer_type kind.Int)) ∷ (21, (integer_type kind.Int)) ∷ []) ((6, 2) ∷ []) ((10, (pos 1)) ∷ (12, (pos 1)) ∷ (20, (pos 3)) ∷ []) ([]) ([]) ([]) ((6, (signature (integer_type kind.SChar) (then_type (integer_type kind.Int) no_types) false false)) ∷ (8, (signature void_type no_types false false)) ∷ [])

abbrev answers_tree : FunctionTree
answers_tree = (s.function None (s.base (n 0) (s.words (fixed.Int ∷ []))) (s.declarator (n 4) 0 (Some (at 1 2)) (s.with_parameters (s.then_parameter (s.parameter (n 3) (s.base (n 1) (s.words (fixed.Int ∷ []))) (s.declarator (n 2) 0 (Some (at 0 1)) (s.arrays s.no_dimensions) s.no_initialiser)) s.no_parameters) false) s.no_initialiser) (s.statement (n 23) (s.block (s.then_part (s.run (s.statement (n 8) (s.expression_statement (s.some_expression (s.expression (n 7) (s.assign assign.Plain (s.expression (n 5) (s.name (at 2 6))) (s.expression (n 6) (s.name (at 0 1))))))))) (s.then_part (s.run (s.statement (n 18) (s.if_statement (s.expression (n 14) (s.binary binary.Eq (s.expression (n 11) (s.call (s.expression (n 9) (s.name (at 6 7))) (s.then_expression (s.expression (n 10) (s.number (at 7 8))) s.no_expressions))) (s.expression (n 13) (s.unary unary.Minus (s.expression (n 12) (s.number (at 7 8))))))) (s.statement (n 17) (s.expression_statement (s.some_expression (s.expression (n 16) (s.call (s.expression (n 15) (s.name (at 8 9))) s.no_expressions))))) s.no_statement))) (s.then_part (s.run (s.statement (n 22) (s.return_statement (s.some_expression (s.expression (n 21) (s.binary binary.Eq (s.expression (n 19) (s.name (at 2 6))) (s.expression (n 20) (s.number (at 9 10))))))))) s.no_parts))))))

answers_number_and_writes : execution answers_typing all_kinds answers_tree (start_at ((2, (pos 5)) ∷ []) ((5, 100) ∷ [])) (put_all ([]) no_memory) (answer (pos 255) (record { address = 100; byte = 3 } ∷ []) ∷ answer (pos 0) ([]) ∷ []) 1 ≡ Seen 14 true None ∷ Enter 17 ∷ Seen 21 true None ∷ []
answers_number_and_writes = refl

answers_cut : execution answers_typing all_kinds answers_tree (start_at ((2, (pos 5)) ∷ []) ((5, 100) ∷ [])) (put_all ([]) no_memory) (answer (pos 255) (record { address = 100; byte = 3 } ∷ []) ∷ []) 1 ≡ Seen 14 true None ∷ Enter 17 ∷ []
answers_cut = refl

-- `int f(struct s *p) { return (p->b == 1) + (p->n == -2) + (p->c == -128); }` behind `struct s { char c; _Bool b; long
-- n; };`
abbrev memory_typing : Typing
memory_typing = told (115 ∷ 112 ∷ 102 ∷ 98 ∷ 49 ∷ 110 ∷ 50 ∷ 99 ∷ 49 ∷ 50 ∷ 56 ∷ []) ((2, (pointer_type (struct_type 0))) ∷ (5, (pointer_type (struct_type 0))) ∷ (6, (integer_type kind.Bool)) ∷ (7, (integer_type kind.Int)) ∷ (8, (integer_type kind.Int)) ∷ (9, (integer_type kind.Int)) ∷ (10, (pointer_type (struct_type 0))) ∷ (11, (integer_type kind.Long)) ∷ (12, (integer_type kind.Int)) ∷ (13, (integer_type kind.Int)) ∷ (14, (integer_type kind.Int)) ∷ (15, (integer_type kind.Int)) ∷ (16, (integer_type kind.Int)) ∷ (17, (pointer_type (struct_type 0))) ∷ (18, (integer_type kind.Char)) ∷ (19, (integer_type kind.Int)) ∷ (20, (integer_type kind.Int)) ∷ (21, (integer_type kind.Int)) ∷ (22, (integer_type kind.Int)) ∷ (23, (integer_type kind.Int)) ∷ []) ((5, 2) ∷ (10, 2) ∷ (17, 2) ∷ []) ((7, (pos 1)) ∷ (12, (pos 2)) ∷ (19, (pos 128)) ∷ []) ([]) ((Some 16) ∷ []) ((0, 3, 1) ∷ (0, 5, 8) ∷ (0, 7, 0) ∷ []) ([])

abbrev memory_tree : FunctionTree
memory_tree = (s.function None (s.base (n 0) (s.words (fixed.Int ∷ []))) (s.declarator (n 4) 0 (Some (at 2 3)) (s.with_parameters (s.then_parameter (s.parameter (n 3) (s.base (n 1) (s.struct_ref (at 0 1))) (s.declarator (n 2) 1 (Some (at 1 2)) (s.arrays s.no_dimensions) s.no_initialiser)) s.no_parameters) false) s.no_initialiser) (s.statement (n 25) (s.block (s.then_part (s.run (s.statement (n 24) (s.return_statement (s.some_expression (s.expression (n 23) (s.binary binary.Add (s.expression (n 16) (s.binary binary.Add (s.expression (n 9) (s.paren (s.expression (n 8) (s.binary binary.Eq (s.expression (n 6) (s.arrow (s.expression (n 5) (s.name (at 1 2))) (at 3 4))) (s.expression (n 7) (s.number (at 4 5))))))) (s.expression (n 15) (s.paren (s.expression (n 14) (s.binary binary.Eq (s.expression (n 11) (s.arrow (s.expression (n 10) (s.name (at 1 2))) (at 5 6))) (s.expression (n 13) (s.unary unary.Minus (s.expression (n 12) (s.number (at 6 7))))))))))) (s.expression (n 22) (s.paren (s.expression (n 21) (s.binary binary.Eq (s.expression (n 18) (s.arrow (s.expression (n 17) (s.name (at 1 2))) (at 7 8))) (s.expression (n 20) (s.unary unary.Minus (s.expression (n 19) (s.number (at 8 11))))))))))))))) s.no_parts))))

memory_little_endian : execution memory_typing all_kinds memory_tree (start_at ((2, (pos 16)) ∷ []) ([])) (put_all (record { address = 16; byte = 128 } ∷ record { address = 17; byte = 2 } ∷ record { address = 24; byte = 254 } ∷ record { address = 25; byte = 255 } ∷ record { address = 26; byte = 255 } ∷ record { address = 27; byte = 255 } ∷ record { address = 28; byte = 255 } ∷ record { address = 29; byte = 255 } ∷ record { address = 30; byte = 255 } ∷ record { address = 31; byte = 255 } ∷ []) no_memory) ([]) 1 ≡ Seen 8 true None ∷ Seen 14 true None ∷ Seen 21 true None ∷ []
memory_little_endian = refl

memory_wraps : execution memory_typing all_kinds memory_tree (start_at ((2, (pos 18446744073709551604)) ∷ []) ([])) (put_all (record { address = 18446744073709551604; byte = 128 } ∷ record { address = 18446744073709551605; byte = 2 } ∷ record { address = 18446744073709551612; byte = 254 } ∷ record { address = 18446744073709551613; byte = 255 } ∷ record { address = 18446744073709551614; byte = 255 } ∷ record { address = 18446744073709551615; byte = 255 } ∷ record { address = 0; byte = 255 } ∷ record { address = 1; byte = 255 } ∷ record { address = 2; byte = 255 } ∷ record { address = 3; byte = 255 } ∷ []) no_memory) ([]) 1 ≡ Seen 8 true None ∷ Seen 14 true None ∷ Seen 21 true None ∷ []
memory_wraps = refl

-- `int f(int x) { int a[2] = { x, 1 }; char b[] = "a"; int u; return (a[1] == 7) + (b[0] == 97) + (u == 4); }`
abbrev filled_typing : Typing
filled_typing = told (120 ∷ 102 ∷ 50 ∷ 49 ∷ 97 ∷ 34 ∷ 97 ∷ 34 ∷ 98 ∷ 117 ∷ 55 ∷ 48 ∷ 57 ∷ 55 ∷ 52 ∷ []) ((2, (integer_type kind.Int)) ∷ (6, (integer_type kind.Int)) ∷ (7, (integer_type kind.Int)) ∷ (8, (integer_type kind.Int)) ∷ (9, (array_type (integer_type kind.Int) (Some 2))) ∷ (11, (array_type (integer_type kind.Char) (Some 2))) ∷ (12, (array_type (integer_type kind.Char) (Some 2))) ∷ (14, (integer_type kind.Int)) ∷ (15, (array_type (integer_type kind.Int) (Some 2))) ∷ (16, (integer_type kind.Int)) ∷ (17, (integer_type kind.Int)) ∷ (18, (integer_type kind.Int)) ∷ (19, (integer_type kind.Int)) ∷ (20, (integer_type kind.Int)) ∷ (21, (array_type (integer_type kind.Char) (Some 2))) ∷ (22, (integer_type kind.Int)) ∷ (23, (integer_type kind.Char)) ∷ (24, (integer_type kind.Int)) ∷ (25, (integer_type kind.Int)) ∷ (26, (integer_type kind.Int)) ∷ (27, (integer_type kind.Int)) ∷ (28, (integer_type kind.Int)) ∷ (29, (integer_type kind.Int)) ∷ (30, (integer_type kind.Int)) ∷ (31, (integer_type kind.Int)) ∷ (32, (integer_type kind.Int)) ∷ []) ((7, 2) ∷ (15, 9) ∷ (21, 12) ∷ (28, 14) ∷ []) ((6, (pos 2)) ∷ (8, (pos 1)) ∷ (16, (pos 1)) ∷ (18, (pos 7)) ∷ (22, (pos 0)) ∷ (24, (pos 97)) ∷ (29, (pos 4)) ∷ []) ([]) ([]) ([]) ([])

abbrev filled_tree : FunctionTree
filled_tree = (s.function None (s.base (n 0) (s.words (fixed.Int ∷ []))) (s.declarator (n 4) 0 (Some (at 1 2)) (s.with_parameters (s.then_parameter (s.parameter (n 3) (s.base (n 1) (s.words (fixed.Int ∷ []))) (s.declarator (n 2) 0 (Some (at 0 1)) (s.arrays s.no_dimensions) s.no_initialiser)) s.no_parameters) false) s.no_initialiser) (s.statement (n 34) (s.block (s.then_part (s.local (s.declaration None (s.base (n 5) (s.words (fixed.Int ∷ []))) (s.then_declarator (s.declarator (n 9) 0 (Some (at 4 5)) (s.arrays (s.then_dimension (s.sized (s.expression (n 6) (s.number (at 2 3)))) s.no_dimensions)) (s.some_initialiser (s.braces (s.then_item (s.item s.no_designators (s.plain (s.expression (n 7) (s.name (at 0 1))))) (s.then_item (s.item s.no_designators (s.plain (s.expression (n 8) (s.number (at 3 4))))) s.no_items)) false))) s.no_declarators))) (s.then_part (s.local (s.declaration None (s.base (n 10) (s.words (fixed.Char ∷ []))) (s.then_declarator (s.declarator (n 12) 0 (Some (at 8 9)) (s.arrays (s.then_dimension s.open_dimension s.no_dimensions)) (s.some_initialiser (s.plain (s.expression (n 11) (s.text ((at 5 8) ∷ [])))))) s.no_declarators))) (s.then_part (s.local (s.declaration None (s.base (n 13) (s.words (fixed.Int ∷ []))) (s.then_declarator (s.declarator (n 14) 0 (Some (at 9 10)) (s.arrays s.no_dimensions) s.no_initialiser) s.no_declarators))) (s.then_part (s.run (s.statement (n 33) (s.return_statement (s.some_expression (s.expression (n 32) (s.binary binary.Add (s.expression (n 27) (s.binary binary.Add (s.expression (n 20) (s.paren (s.expression (n 19) (s.binary binary.Eq (s.expression (n 17) (s.index (s.expression (n 15) (s.name (at 4 5))) (s.expression (n 16) (s.number (at 3 4))))) (s.expression (n 18) (s.number (at 10 11))))))) (s.expression (n 26) (s.paren (s.expression (n 25) (s.binary binary.Eq (s.expression (n 23) (s.index (s.expression (n 21) (s.name (at 8 9))) (s.expression (n 22) (s.number (at 11 12))))) (s.expression (n 24) (s.number (at 12 14))))))))) (s.expression (n 31) (s.paren (s.expression (n 30) (s.binary binary.Eq (s.expression (n 28) (s.name (at 9 10))) (s.expression (n 29) (s.number (at 14 15))))))))))))) s.no_parts)))))))

filled_by_answers : execution filled_typing all_kinds filled_tree (start_at ((2, (pos 0)) ∷ []) ((9, 64) ∷ (12, 80) ∷ (11, 90) ∷ [])) (put_all ([]) no_memory) (answer (pos 0) (record { address = 68; byte = 7 } ∷ []) ∷ answer (pos 0) (record { address = 80; byte = 97 } ∷ []) ∷ answer (pos 4) (record { address = 68; byte = 9 } ∷ []) ∷ []) 1 ≡ Seen 19 true None ∷ Seen 25 true None ∷ Seen 30 true None ∷ []
filled_by_answers = refl

-- `int f(int n) { while (n > 0) { int y; if (y == n) return 1; y = n; n--; } return 0; }`
abbrev scoped_typing : Typing
scoped_typing = told (110 ∷ 102 ∷ 48 ∷ 121 ∷ 49 ∷ []) ((2, (integer_type kind.Int)) ∷ (5, (integer_type kind.Int)) ∷ (6, (integer_type kind.Int)) ∷ (7, (integer_type kind.Int)) ∷ (9, (integer_type kind.Int)) ∷ (10, (integer_type kind.Int)) ∷ (11, (integer_type kind.Int)) ∷ (12, (integer_type kind.Int)) ∷ (13, (integer_type kind.Int)) ∷ (16, (integer_type kind.Int)) ∷ (17, (integer_type kind.Int)) ∷ (18, (integer_type kind.Int)) ∷ (20, (integer_type kind.Int)) ∷ (21, (integer_type kind.Int)) ∷ (25, (integer_type kind.Int)) ∷ []) ((5, 2) ∷ (10, 9) ∷ (11, 2) ∷ (16, 9) ∷ (17, 2) ∷ (20, 2) ∷ []) ((6, (pos 0)) ∷ (13, (pos 1)) ∷ (25, (pos 0)) ∷ []) ([]) ([]) ([]) ([])

abbrev scoped_tree : FunctionTree
scoped_tree = (s.function None (s.base (n 0) (s.words (fixed.Int ∷ []))) (s.declarator (n 4) 0 (Some (at 1 2)) (s.with_parameters (s.then_parameter (s.parameter (n 3) (s.base (n 1) (s.words (fixed.Int ∷ []))) (s.declarator (n 2) 0 (Some (at 0 1)) (s.arrays s.no_dimensions) s.no_initialiser)) s.no_parameters) false) s.no_initialiser) (s.statement (n 27) (s.block (s.then_part (s.run (s.statement (n 24) (s.while_statement (s.expression (n 7) (s.binary binary.Gt (s.expression (n 5) (s.name (at 0 1))) (s.expression (n 6) (s.number (at 2 3))))) (s.statement (n 23) (s.block (s.then_part (s.local (s.declaration None (s.base (n 8) (s.words (fixed.Int ∷ []))) (s.then_declarator (s.declarator (n 9) 0 (Some (at 3 4)) (s.arrays s.no_dimensions) s.no_initialiser) s.no_declarators))) (s.then_part (s.run (s.statement (n 15) (s.if_statement (s.expression (n 12) (s.binary binary.Eq (s.expression (n 10) (s.name (at 3 4))) (s.expression (n 11) (s.name (at 0 1))))) (s.statement (n 14) (s.return_statement (s.some_expression (s.expression (n 13) (s.number (at 4 5)))))) s.no_statement))) (s.then_part (s.run (s.statement (n 19) (s.expression_statement (s.some_expression (s.expression (n 18) (s.assign assign.Plain (s.expression (n 16) (s.name (at 3 4))) (s.expression (n 17) (s.name (at 0 1))))))))) (s.then_part (s.run (s.statement (n 22) (s.expression_statement (s.some_expression (s.expression (n 21) (s.step step.DecAfter (s.expression (n 20) (s.name (at 0 1))))))))) s.no_parts))))))))) (s.then_part (s.run (s.statement (n 26) (s.return_statement (s.some_expression (s.expression (n 25) (s.number (at 2 3))))))) s.no_parts)))))

scoped_given_back : execution scoped_typing all_kinds scoped_tree (start_at ((2, (pos 2)) ∷ []) ([])) (put_all ([]) no_memory) (answer (pos 0) ([]) ∷ answer (pos 0) ([]) ∷ answer (pos 0) ([]) ∷ []) 5 ≡ Seen 7 true None ∷ Enter 23 ∷ Seen 12 false None ∷ Seen 7 true None ∷ Enter 23 ∷ Seen 12 false None ∷ Seen 7 false None ∷ []
scoped_given_back = refl
